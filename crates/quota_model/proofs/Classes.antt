-- For `class_at` and `slots_at`: a table of slot sizes determines the class of a request and the slots of a class, as in the model; it has at most 67 classes,
-- none of size 0, each with 1 to 4,096 slots to a page. Also, `task_paging` is valid (`IsPaging`).
use Rattle.std.proofs.Common.{◌≡◌, ℕ, ◌<◌, ◌≤◌, ◌/◌, List, Some, length, get_or, arith, ap, sym, ◌∙◌, subst}
use Rattle.std.specs.Prelude.{IsTrue}
use Rattle.cf_base.specs.Classes.{class_of, need, sizes, slots}
use Rattle.cf_base.specs.Limits.{is_page_size}
use Rattle.cf_base.specs.Settings.{Profile}
use Rattle.cf_base.specs.declared.kind.Layout.TheVariants.{Words}
use Rattle.cf_base.proofs.Rising.{are_sizes, page_size, slots_within}
use Rattle.page_model.specs.Paging.{IsPaging, class_for, slots_of}
use Rattle.page_model.proofs.CallerLemmas.{class_fits, class_known, first_paged}
use Rattle.quota_model.specs.Refusals.{task_paging}

module _ (s : Profile) (is_page : IsTrue (is_page_size s.page_words)) where
  pub tasks_paged : IsPaging (task_paging s)
  tasks_paged = first_paged (record s { k = 1 }) Words is_page (omega arith)

  module _ (table : List ℕ) (sized : table ≡ sizes s.page_words Words) where
    pub few_classes : length table ≤ 67
    few_classes = (let a = are_sizes s.page_words Words is_page in let few = a.few in let e = ap length sized in omega arith)

    pub class_is : (n : ℕ) → need n ≤ s.page_words → class_of table n ≡ Some (class_for (task_paging s) n)
    class_is n fits = ap (λ all. class_of all n) sized ∙ class_known (task_paging s) tasks_paged n (class_fits (task_paging s) tasks_paged n fits)

    pub class_within : (n : ℕ) → need n ≤ s.page_words → class_for (task_paging s) n < length table
    class_within n fits = (let lt = class_fits (task_paging s) tasks_paged n fits in let e = ap length sized in omega arith)

    pub slots_are : (c : ℕ) → s.page_words / get_or table c 0 ≡ slots_of (task_paging s) c
    slots_are c = ap (λ all. s.page_words / get_or all c 0) sized

    slots_in : (c : ℕ) → c < length table → (1 ≤ slots s.page_words table c) × (slots s.page_words table c ≤ 4096)
    slots_in c lt =
        let page = page_size s.page_words is_page in
        let small = page.small in
        subst (λ all. (1 ≤ slots s.page_words all c) × (slots s.page_words all c ≤ 4096)) (sym sized)
        (slots_within s.page_words (sizes s.page_words Words) c (are_sizes s.page_words Words is_page) (omega arith)
        (let e = ap length sized in omega arith))

    pub slots_some : (c : ℕ) → c < length table → 1 ≤ s.page_words / get_or table c 0
    slots_some c lt = (slots_in c lt).0

    pub slots_few : (c : ℕ) → c < length table → s.page_words / get_or table c 0 ≤ 4096
    slots_few c lt = (slots_in c lt).1

    pub size_some : (c : ℕ) → c < length table → 0 < get_or table c 0
    size_some c lt = (
        let a = are_sizes s.page_words Words is_page in
        let least = a.least c (let e = ap length sized in omega arith) in
        let e : get_or table c 0 ≡ get_or (sizes s.page_words Words) c 0 = ap (λ all. get_or all c 0) sized in
        omega arith)
