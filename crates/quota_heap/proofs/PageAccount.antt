-- For the field `accounted` of the invariant: the pages that a task uses and those of the pool have the same sum before and after a slot is taken or freed.
use Rattle.std.proofs.Common.{◌≡◌, ◌≢◌, ℕ, ◌+◌, ◌<◌, length, arith, refl, sym, ◌∙◌, ap}
use Rattle.std.proofs.Common.{inl, inr, subst}
use Rattle.std.specs.List.{Contains}
use Rattle.std.proofs.lemmas.Bool.{cases_eq}
use Rattle.cf_base.proofs.Members.{length-without}
use Rattle.size_classes.specs.Table.{ClassTable}
use Rattle.class_lists.specs.declared.Which.{Which}
use Rattle.class_lists.specs.declared.Which.TheVariants.{Full, NotFull}
use Rattle.class_lists.specs.PageLists.{AreApart, PageLists, pages_in}
use Rattle.page_model.specs.Arrangement.{pages_of_class, used_pages}
use Rattle.page_model.specs.Held.{Held}
use Rattle.page_model.specs.Paging.{IsPaging, Paging, classes}
use Rattle.page_pool.specs.Pool.{Pool}
use Rattle.page_slots.specs.Release.{FillsFrom, Vacates}
use Rattle.page_slots.specs.Occupying.{Occupies, FitPagesShared}
use Rattle.page_slots.specs.Tables.{AreTables, JoinsList, LeavesList, Tables, slots_in, slots_on, used_in}
use Rattle.page_slots.specs.Take.{TakesAt, TakesOnFreePage, TakesOnPartlyFullPage}
use Rattle.page_slots.proofs.CallerLemmas.{home_pages_are, front_listed}
use Rattle.cf_base.proofs.Ranges.{sum_changed}

-- the number of pages of class c in the lists l, partly full or full
abbrev paged : PageLists → ℕ → ℕ
paged l c = length (pages_in l c Full) + length (pages_in l c NotFull)

-- each class other than c has as many pages as before
abbrev KeepsClasses : PageLists → PageLists → ℕ → Type 0
KeepsClasses old new c = (d : ℕ) → d ≢ c → paged new d ≡ paged old d

part_not_full : NotFull ≢ Full
part_not_full e = absurd (let z : NotFull ≡ Full = e in cc)

full_not_part : Full ≢ NotFull
full_not_part e = absurd (let z : Full ≡ NotFull = e in cc)

joins_paged : (old : PageLists) (c : ℕ) (w : Which) (page : ℕ) (new : PageLists) → JoinsList old c w page new
    → (paged new c ≡ paged old c + 1) × KeepsClasses old new c
joins_paged old c Full page new j =
    let a = ap length j.list in
    let b = ap length (j.others c NotFull (inr part_not_full)) in (
      omega arith,
      λ d ne. (let x = ap length (j.others d Full (inl ne)) in let y = ap length (j.others d NotFull (inl ne)) in omega arith),
    )
joins_paged old c NotFull page new j =
    let a = ap length j.list in
    let b = ap length (j.others c Full (inr full_not_part)) in (
      omega arith,
      λ d ne. (let x = ap length (j.others d Full (inl ne)) in let y = ap length (j.others d NotFull (inl ne)) in omega arith),
    )

leaves_paged : (old : PageLists) (c : ℕ) (w : Which) (page : ℕ) (new : PageLists) → AreApart old → Contains (pages_in old c w) page
    → LeavesList old c w page new → (paged new c + 1 ≡ paged old c) × KeepsClasses old new c
leaves_paged old c Full page new apart there l =
    let a = ap length l.list in
    let n = length-without page (pages_in old c Full) (apart.distinct c Full) there in
    let b = ap length (l.others c NotFull (inr part_not_full)) in (
      omega arith,
      λ d ne. (let x = ap length (l.others d Full (inl ne)) in let y = ap length (l.others d NotFull (inl ne)) in omega arith),
    )
leaves_paged old c NotFull page new apart there l =
    let a = ap length l.list in
    let n = length-without page (pages_in old c NotFull) (apart.distinct c NotFull) there in
    let b = ap length (l.others c Full (inr full_not_part)) in (
      omega arith,
      λ d ne. (let x = ap length (l.others d Full (inl ne)) in let y = ap length (l.others d NotFull (inl ne)) in omega arith),
    )

-- the pages of class c and those of the pool sum to the same as before, and each other class has as many pages as before
pub record Accounts (old new : Tables) (c : ℕ) : Type 0 where
  pub here : paged new.lists c + length new.pool.free ≡ paged old.lists c + length old.pool.free
  pub others : (d : ℕ) → d ≢ c → paged new.lists d ≡ paged old.lists d

module _ (k : ClassTable) (old : Tables) (a : AreTables k old) (c : ℕ) (new : Tables) where
  -- if a page moves from one list of class c to another list of c, each class has as many pages as before
  moves : (v w : Which) (page : ℕ) (between : PageLists) → Contains (pages_in old.lists c v) page → LeavesList old.lists c v page between
      → JoinsList between c w page new.lists → (paged new.lists c ≡ paged old.lists c) × KeepsClasses old.lists new.lists c
  moves v w page between there l j =
      let x = leaves_paged old.lists c v page between a.lists there l in
      let y = joins_paged between c w page new.lists j in
      let e = x.0 in let f = y.0 in
      (omega arith, λ d ne. y.1 d ne ∙ x.1 d ne)

  pool_same : new.pool ≡ old.pool → length new.pool.free ≡ length old.pool.free
  pool_same e = ap (λ (p : Pool). length p.free) e

  open_accounts : (page slot : ℕ) → TakesOnPartlyFullPage old c page slot new → Accounts old new c
  open_accounts page slot t =
      let p = pool_same t.pool in
      elim (cases_eq (used_in (slots_on new page)) (length (slots_on new page))) [
        | inl is ↦ (
            let f = t.filled is in
            let m = moves NotFull Full page f.between (front_listed (pages_in old.lists c NotFull) page t.front) f.leaves f.joins in
            let e = m.0 in record { here = omega arith; others = m.1 })
        | inr ne ↦ (
            let e = ap (λ l. paged l c) (t.not_filled ne) in
            record { here = omega arith; others = λ d _. ap (λ l. paged l d) (t.not_filled ne) })
      ]

  free_accounts : (page : ℕ) → TakesOnFreePage k old c page new → Accounts old new c
  free_accounts page t =
      let p = ap length t.front.0 in
      elim (cases_eq (slots_in k c) 1) [
        | inl is ↦ (let j = joins_paged old.lists c Full page new.lists (t.filled is) in let e = j.0 in record { here = omega arith; others = j.1 })
        | inr ne ↦ (let j = joins_paged old.lists c NotFull page new.lists (t.not_filled ne) in let e = j.0 in record { here = omega arith; others = j.1 })
      ]

  pub take_accounts : (at : ℕ) → TakesAt k old c at new → Accounts old new c
  take_accounts at t = elim t.taken [
    | inl o ↦ open_accounts t.page t.slot o
    | inr (_, f) ↦ free_accounts t.page f
  ]

  pub vacate_accounts : (page slot : ℕ) → Vacates old c page slot new → Accounts old new c
  vacate_accounts page slot v = elim (cases_eq (used_in (slots_on new page)) 0) [
    | inl none ↦ (
        let l = leaves_paged old.lists c v.which page new.lists a.lists v.listed (v.emptied none) in
        let e = l.0 in
        let p = ap (λ (q : Pool). length q.free) (v.returned none) in
        record { here = omega arith; others = l.1 })
    | inr some ↦ by v.which refl some
  ]
    where
      by : (w : Which) → v.which ≡ w → used_in (slots_on new page) ≢ 0 → Accounts old new c
      by Full is some =
          let f = v.opened some is in
          let m = moves Full NotFull page f.between (subst (λ w. Contains (pages_in old.lists c w) page) is v.listed) f.leaves f.joins in
          let e = m.0 in
          let p = pool_same (v.kept some) in
          record { here = omega arith; others = m.1 }
      by NotFull is some =
          let s = v.still some is in
          let e = ap (λ l. paged l c) s in
          let p = pool_same (v.kept some) in
          record { here = omega arith; others = λ d _. ap (λ l. paged l d) s }

  pub fill_accounts : (at : ℕ) → FillsFrom k old c at new → Accounts old new c
  fill_accounts at f = vacate_accounts f.page f.slot f.vacates

-- the pages that the task uses and those of the pool sum to the same before and after, if its objects were m and are m'
pub used_accounts : (p : Paging) → IsPaging p → (m m' : Held) (old new : Tables) → FitPagesShared p old → Occupies p m old → FitPagesShared p new → Occupies p m' new
    → (c : ℕ) → c < classes p → Accounts old new c → used_pages p m' + length new.pool.free ≡ used_pages p m + length old.pool.free
unfolding used_pages
used_accounts p ok m m' old new serve o serve' o' c lt a =
    let was = home_pages_are p ok m old serve o c in
    let now = home_pages_are p ok m' new serve' o' c in
    let sum = sum_changed (pages_of_class p m') (pages_of_class p m) 0 (classes p) c (omega arith) (omega arith)
    (λ d _ _ ne. home_pages_are p ok m' new serve' o' d ∙ a.others d ne ∙ sym (home_pages_are p ok m old serve o d)) in
    let here = a.here in
    omega arith
