-- An object added at a free address, as by a malloc, keeps the arrangement sound (law `a_malloc_keeps_soundness`). The count of its class on its page rises by
-- one, no other count changes, and all objects of the page have its class.
use Rattle.std.proofs.Common.{◌≡◌, ◌≢◌, ℕ, ◌+◌, ◌<◌, ◌≤◌, Some, None, length, replicate, arith, sym, ◌∙◌, inl, inr}
use Rattle.std.specs.Prelude.{◌⊎◌}
use Rattle.std.proofs.lemmas.List.{length-replicate}
use Rattle.std.proofs.lemmas.Bool.{cases_eq}
use Rattle.std.specs.FinMap.{get, insert}
use Rattle.cf_base.proofs.Maps.{some_inserted}
use Rattle.cf_base.proofs.Sums.{sum_by-inserted}
use Rattle.cf_base.proofs.Ranges.{one}
use Rattle.page_model.specs.Held.{Held, Placed}
use Rattle.page_model.specs.Paging.{Paging, IsPaging, classes, slots_of, bound_of, page_of}
use Rattle.page_model.specs.Arrangement.{class_at, is_on, objects_on, not_full_pages, IsSound}
use Rattle.page_model.specs.Steps.{Request, IsFreePlace, PlacesObject, zeros_at}
use Rattle.page_model.proofs.Counting.{part_full, part_yes, one_le, on_no, on_page, nothing_on, not_full-changed, not_full-same}

module _ (p : Paging) (m : Held) (h : ℕ) (x : Placed) (none : get m h ≡ None) where
  -- the counts with one object more
  pub objects_on-inserted : (c page : ℕ) → objects_on p (insert m h x) c page ≡ objects_on p m c page + one (is_on p c page x)
  unfolding objects_on
  objects_on-inserted c page = sum_by-inserted (λ y. one (is_on p c page y)) m h x none

  -- only the page of the new object, in its class, has another count
  pub objects_on-elsewhere : (c page : ℕ) → ((page_of p x.place ≢ page) ⊎ (class_at p x ≢ c)) → objects_on p (insert m h x) c page ≡ objects_on p m c page
  objects_on-elsewhere c page away = (let e = on_no p c page x away in let i = objects_on-inserted c page in omega arith)

  -- all objects of the page are of the new one's class
  pub page_class : IsSound p m → IsFreePlace p m (length x.bytes) x.place → (q : ℕ) (y : Placed) → get m q ≡ Some y → page_of p y.place ≡ page_of p x.place
      → class_at p y ≡ class_at p x
  page_class s f q y e is = elim f.choice [
    | inl there ↦ (let o = on_page p m (class_at p x) (page_of p x.place) there.0 in s.one_class q y o.0 o.1 e o.2 (is ∙ sym o.3) ∙ o.4)
    | inr bare ↦ absurd (nothing_on p m (page_of p x.place) bare.1 q y e is)
  ]

  -- each class has at most its bound of partly full pages afterwards
  few_after : IsPaging p → IsFreePlace p m (length x.bytes) x.place → ((c : ℕ) → c < classes p → not_full_pages p m c ≤ bound_of p c)
      → (c : ℕ) → c < classes p → not_full_pages p (insert m h x) c ≤ bound_of p c
  few_after ok f few c lt = elim (cases_eq (class_at p x) c) [
    | inl is ↦ (
        let change = not_full-changed p m (insert m h x) c (page_of p x.place) (λ g ne. objects_on-elsewhere c g (inl (λ e. ne (sym e)))) f.slot.page in
        let l = one_le (part_full (objects_on p (insert m h x) c (page_of p x.place)) (slots_of p c)) in
        let before = few c lt in
        let some = ok.some c lt in
        elim f.choice [
          | inl there ↦ (
              let y : one (part_full (objects_on p m c (page_of p x.place)) (slots_of p c)) ≡ 1 = part_yes _ _ (rw is at there.0) (rw is at there.1) in
              omega arith)
          | inr bare ↦ (let e : not_full_pages p m c ≡ 0 = rw is at bare.0 in omega arith)
        ])
    | inr ne ↦ (let same = not_full-same p m (insert m h x) c (λ g. objects_on-elsewhere c g (inr ne)) in rw same (few c lt))
  ]

  -- an object added at a free address keeps the arrangement sound
  pub sound_placed : IsPaging p → IsSound p m → IsFreePlace p m (length x.bytes) x.place → IsSound p (insert m h x)
  sound_placed ok s f = record {
    slots = λ q y e. elim (some_inserted m h x q y e) [
      | inl (_, same) ↦ rw (← same) f.slot
      | inr (_, was) ↦ s.slots q y was
    ];
    own_place = λ q y r z e e' ne. elim (some_inserted m h x q y e) [
      | inl (is, same) ↦ elim (some_inserted m h x r z e') [
        | inl (is', _) ↦ absurd (ne (is' ∙ sym is))
        | inr (_, was) ↦ rw (← same) (λ e. f.unused r z was (sym e))
      ]
      | inr (_, was) ↦ elim (some_inserted m h x r z e') [
        | inl (_, same') ↦ rw (← same') (f.unused q y was)
        | inr (_, was') ↦ s.own_place q y r z was was' ne
      ]
    ];
    one_class = λ q y r z e e'. elim (some_inserted m h x q y e) [
      | inl (_, same) ↦ elim (some_inserted m h x r z e') [
        | inl (_, same') ↦ λ _. rw (← same, ← same')
        | inr (_, was) ↦ rw (← same) (λ page. sym (page_class s f r z was (sym page)))
      ]
      | inr (_, was) ↦ elim (some_inserted m h x r z e') [
        | inl (_, same') ↦ rw (← same') (λ page. page_class s f q y was page)
        | inr (_, was') ↦ s.one_class q y r z was was'
      ]
    ];
    few_not_full = few_after ok f s.few_not_full;
  }

-- a malloc (`PlacesObject`) keeps the arrangement sound
pub sound_malloc : (p : Paging) (old : Held) (asked : Request) (new : Held) → IsPaging p → IsSound p old → PlacesObject p old asked new → IsSound p new
sound_malloc p old asked new ok s step =
    let len : length (replicate asked.length 0) ≡ asked.length = length-replicate {A = ℕ} asked.length 0 in
    let e = step.placed in
    rw e (sound_placed p old asked.number (zeros_at step.place asked.length) step.unused ok s (rw len step.free))
