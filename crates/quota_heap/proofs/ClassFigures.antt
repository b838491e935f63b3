-- For `figures_of` and `refusal`: a task has lists for each class, and at most 4,096 pages in them. The figures of a class of a task (a slot's words, a page's
-- slots, live objects, pages, partly full pages) that the code returns are those of the task's objects.
use Rattle.std.proofs.Common.{◌≡◌, ℕ, ◌+◌, ◌<◌, ◌≤◌, length, get_or, arith, refl, sym, ◌∙◌, ap}
use Rattle.cf_base.specs.declared.results.Figures.{Figures}
use Rattle.class_lists.specs.PageLists.{pages_in}
use Rattle.class_lists.specs.declared.Which.TheVariants.{Full, NotFull}
use Rattle.page_model.specs.Arrangement.{pages_of_class, live, not_full_pages}
use Rattle.page_model.specs.Figures.{figures_of}
use Rattle.page_model.specs.Held.{Held, objects}
use Rattle.page_model.specs.Paging.{Paging, classes, slot_words, slots_of}
use Rattle.page_model.proofs.CallerLemmas.{home_at_most}
use Rattle.page_slots.proofs.CallerLemmas.{home_pages_are, not_full_pages_are}
use Rattle.quota_heap.specs.Layout.{ArePages, IsTask, IsTaskIn, IsValid, held_of, shared_paging, tables_of, tasks_state_of}
use Rattle.quota_heap.specs.State.{held_by}
use Rattle.quota_heap.specs.declared.shared_pages.SharedPages.{SharedPages}
use Rattle.quota_heap.specs.declared.open_tasks.OpenTasks.{OpenTasks}
use Rattle.quota_heap.specs.declared.task.Task.{Task}
use Rattle.quota_heap.proofs.Facts.{few_classes, paging_ok, size_is, table_is}
use Rattle.quota_heap.proofs.Tasks.{part_is}
use Rattle.size_classes.specs.Table.{ClassTable}
use Rattle.cf_base.specs.Classes.{slots}

figures_same : (p : Paging) (m : Held) (c w s l g n : ℕ) → w ≡ slot_words p c → s ≡ slots_of p c → l ≡ live p (objects m) c → g ≡ pages_of_class p m c
    → n ≡ not_full_pages p m c → ◌≡◌ {A = Figures} (record { slot_words = w; slots = s; live = l; pages = g; not_full = n }) (figures_of p m c)
figures_same p m c w s l g n ew es el eg en = rw (ew, es, el, eg, en) refl

module _ (g : SharedPages) (k : ArePages g) (t : ℕ) (x : Task) (i : IsTask g t x) (c : ℕ) (lt : c < classes (shared_paging g)) where
  pub class_in : c < x.lists.classes
  class_in = (let e = i.serve.tables.classes in omega arith)

  pub class_few : c < 128
  class_few = (let few = few_classes g k t x i in omega arith)

  pub pages_few : length (pages_in x.lists c Full) + length (pages_in x.lists c NotFull) ≤ 4096
  pages_few = (
      let e = home_pages_are (shared_paging g) (paging_ok g) (held_of g x) (tables_of g x) i.serve i.occupied c in
      let l = home_at_most (shared_paging g) (held_of g x) c in
      let few = g.settings.few_pages in
      omega arith)

  pub figures_are : (w s l p n : ℕ) → w ≡ get_or g.tables.classes.sizes c 0 → s ≡ slots g.tables.classes.page_words g.tables.classes.sizes c → l ≡ get_or x.live c 0
      → p ≡ length (pages_in x.lists c Full) + length (pages_in x.lists c NotFull) → n ≡ length (pages_in x.lists c NotFull)
      → ◌≡◌ {A = Figures} (record { slot_words = w; slots = s; live = l; pages = p; not_full = n }) (figures_of (shared_paging g) (held_of g x) c)
  figures_are w s l p n ew es el ep en = figures_same (shared_paging g) (held_of g x) c w s l p n
      (ew ∙ size_is g k c)
      (es ∙ ap (λ (d : ClassTable). slots d.page_words d.sizes c) (sym (table_is g k)))
      (el ∙ i.counted c lt)
      (ep ∙ sym (home_pages_are (shared_paging g) (paging_ok g) (held_of g x) (tables_of g x) i.serve i.occupied c))
      (en ∙ sym (not_full_pages_are (shared_paging g) (paging_ok g) (held_of g x) (tables_of g x) i.serve i.occupied c))

-- the figures that the code returns are those of the state that contracts show
pub figures_seen : (h : OpenTasks) (k : IsValid h) (t : ℕ) (x : Task) (at : IsTaskIn h t x) (c : ℕ) (f : Figures)
    → f ≡ figures_of (shared_paging h.shared_pages) (held_of h.shared_pages x) c → f ≡ figures_of (shared_paging h.shared_pages) (held_by (tasks_state_of h) t) c
figures_seen h k t x at c f e = e ∙ ap (λ m. figures_of (shared_paging h.shared_pages) m c) (sym (part_is h k t x at))
