-- For the loop of `put_classes`, which writes a task's report: up to each class, the figures are those of the task's objects, and the pages counted are those
-- that the task uses.
use Rattle.std.proofs.Common.{◌≡◌, ◌∙◌, ℕ, ◌+◌, ◌≤◌, ◌<◌, ◌++◌, List, [], ◌∷◌, Some, None, ap, arith, sum_by}
use Rattle.std.proofs.lemmas.List.Sums.{sum_by-cons}
use Rattle.std.specs.List.{range_with_len}
use Rattle.cf_base.specs.declared.results.Figures.{Figures}
use Rattle.frag_report.proofs.CallerLemmas.{class_past, class_there, one_class_more}
use Rattle.page_model.specs.Arrangement.{pages_of_class, used_pages}
use Rattle.page_model.specs.Figures.{figures_of}
use Rattle.run_model.specs.Terms.{classes, Held, Paging}
use Rattle.quota_heap.specs.State.{KeepsTasks, QuotaState, held_by}
use Rattle.quota_heap.specs.Steps.{figures_by}
use Rattle.quota_model.specs.Refusals.{task_paging}
use Rattle.quota_model.proofs.CallerLemmas.{tasks_paged}

sum-append : (f : ℕ → ℕ) (xs : List ℕ) (c : ℕ) → sum_by f (xs ++ c ∷ []) ≡ sum_by f xs + f c
sum-append f [] c = let a = sum_by-cons f c [] in omega arith
sum-append f (x ∷ xs) c = let a = sum_by-cons f x (xs ++ c ∷ []) in let b = sum_by-cons f x xs in let d = sum-append f xs c in omega arith

module _ (s : QuotaState) (task : ℕ) where
  abbrev p : Paging
  p = task_paging s.profile

  abbrev held : Held
  held = held_by s task

  -- if there are figures of class c, c is a class and they are its figures; if there are none, c is past the last class
  pub class_of_task : (c : ℕ) (f : Figures) → Some f ≡ figures_by s task c → (c < classes p) × (f ≡ figures_of p held c)
  class_of_task c f is = class_there c (classes p) f (figures_of p held c) is

  pub past_classes : (c : ℕ) → None ≡ figures_by s task c → classes p ≤ c
  past_classes c is = class_past c (classes p) (figures_of p held c) is

  pub few_classes : KeepsTasks s → classes p ≤ 67
  few_classes rules = (tasks_paged s.profile rules.page_size).sized.few

  pub pages_more : (c used : ℕ) (f : Figures) → f ≡ figures_of p held c → used ≡ sum_by (pages_of_class p held) (range_with_len 0 c)
      → used + f.pages ≡ sum_by (pages_of_class p held) (range_with_len 0 (c + 1))
  pages_more c used f is so_far =
      let a : sum_by (pages_of_class p held) (range_with_len 0 (c + 1)) ≡ sum_by (pages_of_class p held) (range_with_len 0 c ++ c ∷ []) =
      ap (sum_by (pages_of_class p held)) (one_class_more c) in
      let b = sum-append (pages_of_class p held) (range_with_len 0 c) c in
      let e : f.pages ≡ pages_of_class p held c = ap (λ (g : Figures). g.pages) is in
      omega arith

  -- after all classes, the pages counted are the pages that the task uses
  pub all_pages : (c used : ℕ) → c ≡ classes p → used ≡ sum_by (pages_of_class p held) (range_with_len 0 c) → used ≡ used_pages p held
  unfolding used_pages
  all_pages c used is so_far = so_far ∙ ap (λ k. sum_by (pages_of_class p held) (range_with_len 0 k)) is
