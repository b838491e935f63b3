-- For `count_pages` and `admit`: the objects of each class and the pages that they need, after some entries of what a task declares, one more, and all; these
-- objects fit a page, and no count exceeds the proxies. A quota of at least these pages is enough.
use Rattle.std.proofs.Common.{◌≡◌, ◌≢◌, ℕ, false, ◌+◌, ◌-◌, ◌<◌, ◌≤◌, List, [], ◌++◌, Some, length, get_or, set, replicate, take}
use Rattle.std.proofs.Common.{arith, ap, sym, ◌∙◌, inl, inr, refl, subst}
use Rattle.std.specs.Prelude.{IsTrue, nat_eq, nat_lt}
use Rattle.std.specs.FinMap.{empty}
use Rattle.std.proofs.lemmas.Bool.{cases_eq, cases_lt, false≢true}
use Rattle.std.proofs.lemmas.List.{get_or-set_same, get_or-set_other, length-append, length-replicate, length-set}
use Rattle.std.proofs.lemmas.List.Sums.{count_by-le-length}
use Rattle.std.proofs.Math.Seq.{take-length}
use Rattle.cf_base.specs.Classes.{need}
use Rattle.cf_base.specs.Limits.{is_page_size}
use Rattle.cf_base.proofs.Tests.{lt_yes}
use Rattle.page_model.specs.Counts.{ceil_div}
use Rattle.page_model.specs.Paging.{Paging, class_for, classes, slots_of}
use Rattle.page_model.proofs.CallerLemmas.{class_fits}
use Rattle.quota_model.specs.Admission.{CanBeAsked, IsEnough, Share, count_of_class, first_refused_for_space, in_order, pages_needed_by}
use Rattle.quota_model.specs.Refusals.{task_paging}
use Rattle.quota_model.specs.declared.results.Need.{Need}
use Rattle.quota_model.proofs.CallerLemmas.{all_fail, enough_iff, length-in_order, pages_of_none, some_iff, zeros}
use Rattle.quota_model.specs.Layout.{AreTallied, IsPast}
use Rattle.quota_model.proofs.Classes.{tasks_paged}
use Rattle.quota_model.proofs.Entries.{ceil_within, count_here, count_other, count_split, in_order_more, pages_next, take_within}

-- before the first entry nothing is counted
pub counted_none : (p : Paging) (quota : ℕ) → AreTallied p quota [] (replicate 67 0) 0 0
counted_none p quota = record {
  counts_are = λ c lt. zeros 67 c;
  pages_are = sym (pages_of_none p);
  enough = omega arith;
  before_are = refl;
  many = length-replicate {A = ℕ} 67 0;
}

-- at the end the pages are those of all entries
pub all_counted : (t : Share) (needs : List Need) (i : ℕ) (counts : List ℕ) (pages before : ℕ) → i ≡ length needs
    → AreTallied (task_paging t.profile) t.quota (in_order (take i needs)) counts pages before → pages ≡ pages_needed_by (task_paging t.profile) (in_order needs)
all_counted t needs i counts pages before is k =
    k.pages_are ∙ ap (λ xs. pages_needed_by (task_paging t.profile) (in_order xs)) (ap (λ j. take j needs) is ∙ take-length needs)

-- a quota of these pages or more is enough
pub within_is_enough : (t : Share) (needs : List Need) → CanBeAsked t.profile needs → (pages : ℕ) → pages ≡ pages_needed_by (task_paging t.profile) (in_order needs)
    → pages ≤ t.quota → IsEnough t needs
within_is_enough t needs asked pages is within = (enough_iff t needs asked).1 (omega arith)

module _ (t : Share) (is_page : IsTrue (is_page_size t.profile.page_words)) (needs : List Need) (asked : CanBeAsked t.profile needs) (i : ℕ) (d : Need)
    (lt : i < length needs) where
  -- an object of entry i fits a page
  pub entry_fits : need (get_or needs i d).bytes ≤ t.profile.page_words
  entry_fits = elim (cases_lt t.profile.page_words (need (get_or needs i d).bytes)) [
    | inl more ↦ absurd (
        let fails : nat_lt t.profile.page_words (need (get_or needs i d).bytes) ≡ false =
        all_fail (λ (e : Need). nat_lt t.profile.page_words (need e.bytes)) needs asked.none_large i d lt in
        false≢true (sym fails ∙ lt_yes t.profile.page_words (need (get_or needs i d).bytes) more))
    | inr fine ↦ fine
  ]

  module _ (counts : List ℕ) (pages before : ℕ) (k : AreTallied (task_paging t.profile) t.quota (in_order (take i needs)) counts pages before) (class : ℕ)
      (is : class ≡ class_for (task_paging t.profile) (get_or needs i d).bytes) where
    here : class_for (task_paging t.profile) (get_or needs i d).bytes < classes (task_paging t.profile)
    here = class_fits (task_paging t.profile) (tasks_paged t.profile is_page) (get_or needs i d).bytes entry_fits

    had_is : get_or counts class 0 ≡ count_of_class (task_paging t.profile) (in_order (take i needs))
        (class_for (task_paging t.profile) (get_or needs i d).bytes)
    had_is = ap (λ c. get_or counts c 0) is ∙ k.counts_are (class_for (task_paging t.profile) (get_or needs i d).bytes) here

    -- with entry i there are no more mallocs so far than proxies
    pub few_before : before + (get_or needs i d).count ≤ t.profile.proxies
    few_before =
        let a = count_split needs i d lt in
        let b = k.before_are in
        let c = length-in_order needs in
        let few = asked.few in
        omega arith

    pub few_had : get_or counts class 0 + (get_or needs i d).count ≤ t.profile.proxies
    few_had =
        let a = had_is in
        let b = count_by-le-length (λ n. nat_eq (class_for (task_paging t.profile) n) (class_for (task_paging t.profile) (get_or needs i d).bytes))
        (in_order (take i needs)) in
        let c = k.before_are in
        let few = few_before in
        omega arith

    module _ (slots : ℕ) (slots_are : slots ≡ slots_of (task_paging t.profile) class) where
      slots_is : slots ≡ slots_of (task_paging t.profile) (class_for (task_paging t.profile) (get_or needs i d).bytes)
      slots_is = slots_are ∙ ap (slots_of (task_paging t.profile)) is

      ceil_is : (j : ℕ) → ceil_div (get_or counts class 0 + j) slots
          ≡ ceil_div (count_of_class (task_paging t.profile) (in_order (take i needs)) (class_for (task_paging t.profile) (get_or needs i d).bytes) + j)
          (slots_of (task_paging t.profile) (class_for (task_paging t.profile) (get_or needs i d).bytes))
      ceil_is j = λ x. ceil_div (had_is x + j) (slots_is x)

      ceil_is_now : ceil_div (get_or counts class 0) slots
          ≡ ceil_div (count_of_class (task_paging t.profile) (in_order (take i needs)) (class_for (task_paging t.profile) (get_or needs i d).bytes))
          (slots_of (task_paging t.profile) (class_for (task_paging t.profile) (get_or needs i d).bytes))
      ceil_is_now = λ x. ceil_div (had_is x) (slots_is x)

      pub ceil_counted : ceil_div (get_or counts class 0) slots ≤ pages
      ceil_counted =
          let a = ceil_within (task_paging t.profile) (tasks_paged t.profile is_page) (get_or needs i d).bytes entry_fits (in_order (take i needs)) in
          let b = ceil_is_now in
          let c = k.pages_are in
          omega arith

      -- the pages that the objects of the entries before i need with j objects of entry i
      pages_at : (j : ℕ) → pages_needed_by (task_paging t.profile) (in_order (take i needs) ++ replicate j (get_or needs i d).bytes)
          ≡ (pages - ceil_div (get_or counts class 0) slots) + ceil_div (get_or counts class 0 + j) slots
      pages_at j =
          let a = pages_next (task_paging t.profile) (tasks_paged t.profile is_page) (get_or needs i d).bytes entry_fits (in_order (take i needs)) j in
          let b = ceil_is_now in
          let c = k.pages_are in
          let e = ceil_is j in
          omega arith

      pub counted_next : (sum : ℕ)
          → sum + ceil_div (get_or counts class 0) slots ≡ pages + ceil_div (get_or counts class 0 + (get_or needs i d).count) slots → sum ≤ t.quota
          → class < 67
          → AreTallied (task_paging t.profile) t.quota (in_order (take (i + 1) needs)) (set counts class (get_or counts class 0 + (get_or needs i d).count)) sum
          (before + (get_or needs i d).count)
      counted_next sum sum_is fits within' =
          let many = k.many in
          let within : class < length counts = omega arith in
          let more = in_order_more needs i d lt in
          subst (λ ns. AreTallied (task_paging t.profile) t.quota ns (set counts class (get_or counts class 0 + (get_or needs i d).count)) sum
          (before + (get_or needs i d).count)) (sym more) (record {
            counts_are = λ c c_lt. elim (cases_eq c class) [
              | inl same ↦ (
                  let a : get_or (set counts class (get_or counts class 0 + (get_or needs i d).count)) c 0
                  ≡ get_or counts class 0 + (get_or needs i d).count =
                  ap (λ x. get_or (set counts class (get_or counts class 0 + (get_or needs i d).count)) x 0) same
                  ∙ get_or-set_same counts class (get_or counts class 0 + (get_or needs i d).count) 0 within in
                  let b = count_here (task_paging t.profile) (tasks_paged t.profile is_page) (get_or needs i d).bytes entry_fits (in_order (take i needs))
                  (get_or needs i d).count in
                  let e : count_of_class (task_paging t.profile) (in_order (take i needs) ++ replicate (get_or needs i d).count (get_or needs i d).bytes) c
                  ≡ count_of_class (task_paging t.profile) (in_order (take i needs) ++ replicate (get_or needs i d).count (get_or needs i d).bytes)
                  (class_for (task_paging t.profile) (get_or needs i d).bytes) =
                  ap (count_of_class (task_paging t.profile) (in_order (take i needs) ++ replicate (get_or needs i d).count (get_or needs i d).bytes)) (same
                  ∙ is) in
                  let h = had_is in
                  omega arith)
              | inr other ↦ (
                  let away : c ≢ class_for (task_paging t.profile) (get_or needs i d).bytes = λ e. other (e ∙ sym is) in
                  get_or-set_other counts class c (get_or counts class 0 + (get_or needs i d).count) 0 other ∙ k.counts_are c c_lt
                  ∙ sym (count_other (task_paging t.profile) (tasks_paged t.profile is_page) (get_or needs i d).bytes entry_fits (in_order (take i needs))
                  (get_or needs i d).count c away))
            ];
            pages_are = (let a = pages_at (get_or needs i d).count in let b = ceil_counted in omega arith);
            enough = fits;
            before_are = (
                let a = length-append (in_order (take i needs)) (replicate (get_or needs i d).count (get_or needs i d).bytes) in
                let b : length (replicate {A = ℕ} (get_or needs i d).count (get_or needs i d).bytes) ≡ (get_or needs i d).count =
                length-replicate {A = ℕ} (get_or needs i d).count (get_or needs i d).bytes in
                let c = k.before_are in
                omega arith);
            many = length-set counts class (get_or counts class 0 + (get_or needs i d).count) ∙ k.many;
          })

      pub short_here : (fit : ℕ) → IsPast t.quota (pages - ceil_div (get_or counts class 0) slots) (get_or counts class 0) (get_or needs i d).count slots fit
          → first_refused_for_space t empty 0 (in_order needs) ≡ Some (before + fit + 1)
      short_here fit past =
          let fewer = past.fewer in
          let within = past.within in
          let over = past.past in
          let b = k.before_are in
          let a = pages_at fit in
          let a' = pages_at (fit + 1) in
          let up_to : take (before + fit + 1 - 1) (in_order needs) ≡ in_order (take i needs) ++ replicate fit (get_or needs i d).bytes = (
          let e : before + fit + 1 - 1 ≡ length (in_order (take i needs)) + fit = omega arith in
          ap (λ x. take x (in_order needs)) e ∙ take_within needs i d lt fit (omega arith)) in
          let up_to_more : take (before + fit + 1) (in_order needs) ≡ in_order (take i needs) ++ replicate (fit + 1) (get_or needs i d).bytes = (
          let e : before + fit + 1 ≡ length (in_order (take i needs)) + (fit + 1) = omega arith in
          ap (λ x. take x (in_order needs)) e ∙ take_within needs i d lt (fit + 1) (omega arith)) in
          let split = count_split needs i d lt in
          (some_iff t needs asked (before + fit + 1)).1 (
            omega arith,
            omega arith,
            subst (λ ns. pages_needed_by (task_paging t.profile) ns ≤ t.quota) (sym up_to) (omega arith),
            subst (λ ns. t.quota < pages_needed_by (task_paging t.profile) ns) (sym up_to_more) (omega arith),
          )
