-- For `a_promise_is_an_opening_order` and `an_empty_heap_keeps_the_rules`: the order after opening a manager lists exactly what its empty heap has free, with
-- pages and with blocks; and a manager that promises an order has this one after it opens.
use Rattle.std.proofs.Common.{◌≡◌, ℕ, ◌^◌, ◌≤◌, ◌<◌, List, [], ◌∷◌, Option, Some, None, length, get_or, replicate, arith, sym, ◌∙◌, subst, inl, inr, ap, refl}
use Rattle.std.specs.Prelude.{IfSome, IsSome, is_some}
use Rattle.std.specs.List.{range_with_len}
use Rattle.std.proofs.lemmas.Bool.{cases_eq, false≢true}
use Rattle.std.proofs.lemmas.List.{length-replicate}
use Rattle.std.proofs.lemmas.List.FromFn.{length-range_with_len}
use Rattle.std.specs.Ordering.{nat_cmp}
use Rattle.std.specs.FinMap.{empty, get, get-empty, len, len-empty}
use Rattle.cf_base.proofs.Members.{range_below, range_distinct}
use Rattle.cf_base.specs.Settings.{Profile, profile_of}
use Rattle.cf_base.specs.declared.kind.Kind.{Kind}
use Rattle.cf_base.specs.declared.kind.Kind.TheVariants.{Moving, NonMoving, Tlsf, HalfFit}
use Rattle.cf_base.specs.declared.settings.Settings.{Settings}
use Rattle.page_model.specs.Held.{Placed}
use Rattle.page_model.specs.Order.{IsOrderOf, Order, first_order}
use Rattle.page_model.specs.Paging.{Paging, first_bounds, paging_of}
use Rattle.page_model.proofs.CallerLemmas.{first_is_order}
use Rattle.block_model.specs.Buckets.{AreLawful, FreeLists}
use Rattle.block_model.specs.FreeOrder.{AreListsOf, AreThreaded, HaveLinks, first_lists, link_word, no_block}
use Rattle.block_model.specs.Tiling.{one_free_block}
use Rattle.block_model.proofs.CallerLemmas.{half_fit_lawful, led_other, led_same, no_list, tlsf_lawful}
use Rattle.cf_model.specs.Families.{IsPaged, IsTiled, free_lists_of, list_count_of, paged, tiled}
use Rattle.cf_model.specs.Rules.{IsBlockOrder}
use Rattle.cf_model.specs.State.{HeapState, layout_of, region_words}
use Rattle.cf_model.specs.Ordered.{KeepsPromise}
use Rattle.cf_model.specs.Steps.{IsEmptyHeap, IsOpeningOrder, opening_order, ordered_heap}

-- ---- pages

-- the pages and classes of a manager that opens
abbrev pub first_paging : Kind → Profile → Paging
first_paging k p = paging_of p (layout_of k) (first_bounds p (layout_of k))

paged_opening : (k : Kind) (p : Profile) → IsPaged k → opening_order k p ≡ first_order (first_paging k p) p.proxies
paged_opening Moving p is = refl
paged_opening NonMoving p is = refl
paged_opening Tlsf p is = absurd (let e : tiled ≡ paged = is in cc)
paged_opening HalfFit p is = absurd (let e : tiled ≡ paged = is in cc)

pub opens_in_order : (k : Kind) (p : Profile) → IsPaged k → (order : Option Order) → IsOpeningOrder k p order
    → IfSome order (IsOrderOf (first_paging k p) empty p.proxies)
opens_in_order k p is None opens = tt
opens_in_order k p is (Some order) opens =
    subst (IsOrderOf (first_paging k p) empty p.proxies) (sym (opens ∙ paged_opening k p is)) (first_is_order (first_paging k p) p.proxies)

-- ---- blocks

-- the lists of one free block are lists of its region, as block_model's law says
abbrev pub OpensLists : Type 0
OpensLists = (rule : FreeLists) (count words : ℕ) → AreLawful rule count → 2 ≤ words → words ≤ 2 ^ 23
    → AreListsOf rule count (record { blocks = one_free_block words; lists = first_lists rule count words })

-- the one free block is linked with no other
module _ (rule : FreeLists) (count n : ℕ) (words : List ℕ) (within : rule.bucket n < count) (link : get_or words 1 0 ≡ link_word no_block no_block) where
  within_lists : rule.bucket n < length (replicate {A = List ℕ} count [])
  within_lists = (let long = length-replicate {A = List ℕ} count [] in omega arith)

  first_links : HaveLinks words (first_lists rule count n)
  first_links k = elim (cases_eq k (rule.bucket n)) [
    | inl is ↦ subst (AreThreaded words no_block)
        (sym (led_same rule (replicate count []) 0 n within_lists k (sym is) ∙ ap (λ xs. 0 ∷ xs) (no_list count k))) (link, tt)
    | inr other ↦ subst (AreThreaded words no_block) (sym (led_other rule (replicate count []) 0 n k other ∙ no_list count k)) tt
  ]

module _ (opens : OpensLists) (p : Profile) (words : List ℕ) (some : 2 ≤ region_words p) (few : region_words p ≤ 2 ^ 23)
    (link : get_or words 1 0 ≡ link_word no_block no_block) where
  one_block_order : (s : HeapState) → AreLawful (free_lists_of s.kind) (list_count_of s.kind) → s.profile ≡ p → s.tiling ≡ one_free_block (region_words p)
      → s.held ≡ empty → s.words ≡ words → IsBlockOrder s (record {
        pool = [];
        not_full = first_lists (free_lists_of s.kind) (list_count_of s.kind) (region_words p);
        spare = range_with_len 0 p.proxies;
      })
  one_block_order s lawful profile tiles none w = record {
    no_pool = refl;
    lists = subst (λ bs. AreListsOf (free_lists_of s.kind) (list_count_of s.kind)
        (record { blocks = bs; lists = first_lists (free_lists_of s.kind) (list_count_of s.kind) (region_words p) })) (sym tiles)
        (opens (free_lists_of s.kind) (list_count_of s.kind) (region_words p) lawful some few);
    links = subst (λ ws. HaveLinks ws (first_lists (free_lists_of s.kind) (list_count_of s.kind) (region_words p))) (sym w)
        (first_links (free_lists_of s.kind) (list_count_of s.kind) (region_words p) words (lawful.below (region_words p) some few) link);
    spare = λ h i. (rw profile (range_below p.proxies h i), ap (λ m. get m h) none ∙ get-empty nat_cmp h);
    spare_once = range_distinct 0 p.proxies;
    spare_all =
        let long = length-range_with_len 0 p.proxies in
        let zero_len = ap (λ m. len m) none ∙ len-empty nat_cmp Placed in
        let limit = ap (λ (q : Profile). q.proxies) profile in
        omega arith;
  }

  -- a manager with blocks that opens has its one free block in a list, and all numbers
  pub opens_in_block_order : (k : Kind) → IsTiled k → IsBlockOrder (ordered_heap k p words (Some (opening_order k p))) (opening_order k p)
  opens_in_block_order Moving is = absurd (let e : paged ≡ tiled = is in cc)
  opens_in_block_order NonMoving is = absurd (let e : paged ≡ tiled = is in cc)
  opens_in_block_order Tlsf is = one_block_order (ordered_heap Tlsf p words (Some (opening_order Tlsf p))) tlsf_lawful refl refl refl refl
  opens_in_block_order HalfFit is = one_block_order (ordered_heap HalfFit p words (Some (opening_order HalfFit p))) half_fit_lawful refl refl refl refl

-- ---- promises

-- a manager that promises an order has the opening order after it opens
pub opened_in_order : (s : Settings) (old new : HeapState) → IsSome old.order → IsEmptyHeap old.kind s new → KeepsPromise old new
    → new ≡ ordered_heap old.kind (profile_of s) new.words (Some (opening_order old.kind (profile_of s)))
opened_in_order s old new some empties promise = by_order new.order refl
  where
    by_order : (o : Option Order) → new.order ≡ o → new ≡ ordered_heap old.kind (profile_of s) new.words (Some (opening_order old.kind (profile_of s)))
    by_order None is = absurd (false≢true (sym (ap is_some is) ∙ promise ∙ some))
    by_order (Some o) is =
        let first : o ≡ opening_order old.kind (profile_of s) = subst (IsOpeningOrder old.kind (profile_of s)) is empties.order in
        empties.whole ∙ ap (ordered_heap old.kind (profile_of s) new.words) (is ∙ ap Some first)
