-- For the opening of a heap: the order with all pages and all numbers, each in rising order, lists what the arrangement without objects leaves free
-- (`IsOrderOf`).
use Rattle.std.proofs.Common.{◌≡◌, ℕ, ◌<◌, List, [], get_or, replicate, arith, sym, subst}
use Rattle.std.specs.Prelude.{nat_eq, ◌↔◌}
use Rattle.std.specs.List.{Contains, IsDistinct}
use Rattle.std.specs.Ordering.{nat_cmp}
use Rattle.std.specs.FinMap.{empty, get-empty, len-empty}
use Rattle.std.proofs.lemmas.List.{get_or-replicate, length-replicate}
use Rattle.std.proofs.lemmas.List.FromFn.{length-range_with_len}
use Rattle.cf_base.proofs.Members.{contains_nil, distinct_nil, range_below, range_distinct, range_has}
use Rattle.page_model.specs.Held.{Placed}
use Rattle.page_model.specs.Order.{IsOrderOf, IsPartlyFull, first_order}
use Rattle.page_model.specs.Paging.{Paging, classes}
use Rattle.page_model.proofs.OrderLists.{bare_page}
use Rattle.page_model.proofs.Totals.{on_none}

no_open : (n c : ℕ) → c < n → get_or (replicate {A = List ℕ} n []) c [] ≡ []
no_open n c lt = get_or-replicate {A = List ℕ} n c [] [] lt

none_open : (p : Paging) (c page : ℕ) → Contains [] page ↔ ((page < p.pages) × IsPartlyFull p empty c page)
none_open p c page = (
  λ there. absurd (contains_nil page there),
  λ (lt, (some, few)). absurd (let none = on_none p c page in omega arith),
)

pub first_is_order : (p : Paging) (limit : ℕ) → IsOrderOf p empty limit (first_order p limit)
first_is_order p limit = record {
  pool = λ page. (λ there. (range_below p.pages page there, bare_page p empty page (λ d. on_none p d page)), λ (lt, bare). range_has p.pages page lt);
  pool_once = range_distinct 0 p.pages;
  as_many = length-replicate {A = List ℕ} (classes p) [];
  not_full = λ c page lt. subst (λ xs. Contains xs page ↔ ((page < p.pages) × IsPartlyFull p empty c page)) (sym (no_open (classes p) c lt))
      (none_open p c page);
  not_full_once = λ c lt. subst (IsDistinct nat_eq) (sym (no_open (classes p) c lt)) distinct_nil;
  spare = λ h there. (range_below limit h there, get-empty nat_cmp h);
  spare_once = range_distinct 0 limit;
  spare_all = (let none = len-empty nat_cmp Placed in let long = length-range_with_len 0 limit in omega arith);
}
