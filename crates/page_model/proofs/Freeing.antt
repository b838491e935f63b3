-- An arrangement stays sound if an object is removed where no move is due (`MayLeave`), or if another object of its class takes its address. The counts of
-- objects on each page in both cases.
use Rattle.std.proofs.Common.{◌≡◌, ◌≢◌, ℕ, ◌+◌, ◌<◌, ◌≤◌, List, Some, None, arith, sym, ◌∙◌, inl, inr, ap, refl}
use Rattle.std.specs.Prelude.{◌⊎◌, ◌&&◌, nat_eq}
use Rattle.std.proofs.lemmas.Bool.{cases_eq}
use Rattle.std.specs.FinMap.{get, insert, remove}
use Rattle.cf_base.proofs.Maps.{some_inserted, some_removed}
use Rattle.cf_base.proofs.Sums.{sum_by-removed}
use Rattle.cf_base.proofs.Ranges.{one}
use Rattle.page_model.specs.Held.{Held, Placed}
use Rattle.page_model.specs.Paging.{Paging, classes, slots_of, bound_of, page_of}
use Rattle.page_model.specs.Arrangement.{class_at, is_on, objects_on, not_full_pages, IsSound}
use Rattle.page_model.proofs.Counting.{part_full, part_yes, part_empty, part_over, one_le, on_no, on_yes, not_full-changed, not_full-same}
use Rattle.page_model.proofs.Placing.{objects_on-inserted}

module _ (p : Paging) (m : Held) (h : ℕ) (x : Placed) (some : get m h ≡ Some x) where
  -- the counts with one object less
  pub objects_on-removed : (c page : ℕ) → objects_on p (remove m h) c page + one (is_on p c page x) ≡ objects_on p m c page
  unfolding objects_on
  objects_on-removed c page = sum_by-removed (λ y. one (is_on p c page y)) m h x some

  pub objects_on-away : (c page : ℕ) → ((page_of p x.place ≢ page) ⊎ (class_at p x ≢ c)) → objects_on p (remove m h) c page ≡ objects_on p m c page
  objects_on-away c page away = (let e = on_no p c page x away in let i = objects_on-removed c page in omega arith)

  pub objects_on-left : (c : ℕ) → class_at p x ≡ c → objects_on p (remove m h) c (page_of p x.place) + 1 ≡ objects_on p m c (page_of p x.place)
  objects_on-left c is =
      let e : one (is_on p c (page_of p x.place) x) ≡ 1 = (let f = on_yes p c (page_of p x.place) x refl is in rw f) in
      let i = objects_on-removed c (page_of p x.place) in
      omega arith

  -- when a free needs no move: the page wasn't full, or it has one slot, or its class has not reached its bound of partly full pages
  unfoldable pub MayLeave : Type 0
  MayLeave = (objects_on p m (class_at p x) (page_of p x.place) < slots_of p (class_at p x))
      ⊎ ((slots_of p (class_at p x) ≤ 1) ⊎ (not_full_pages p m (class_at p x) < bound_of p (class_at p x)))

  few_after_free : page_of p x.place < p.pages → ((c : ℕ) → c < classes p → not_full_pages p m c ≤ bound_of p c) → MayLeave
      → (c : ℕ) → c < classes p → not_full_pages p (remove m h) c ≤ bound_of p c
  unfolding MayLeave
  few_after_free page few may c lt = elim (cases_eq (class_at p x) c) [
    | inl is ↦ (
        let change = not_full-changed p m (remove m h) c (page_of p x.place) (λ g ne. objects_on-away c g (inl (λ e. ne (sym e)))) page in
        let l = one_le (part_full (objects_on p (remove m h) c (page_of p x.place)) (slots_of p c)) in
        let before = few c lt in
        let here = objects_on-left c is in
        elim may [
          | inl less ↦ (
              let y : one (part_full (objects_on p m c (page_of p x.place)) (slots_of p c)) ≡ 1 =
              part_yes (objects_on p m c (page_of p x.place)) (slots_of p c) (omega arith) (rw is at less) in
              omega arith)
          | inr (inl single) ↦ (
              let s : slots_of p c ≤ 1 = rw is at single in
              let z : one (part_full (objects_on p (remove m h) c (page_of p x.place)) (slots_of p c)) ≡ 0 =
              elim (cases_eq (objects_on p (remove m h) c (page_of p x.place)) 0) [
                | inl none ↦ part_empty _ _ none
                | inr ne ↦ part_over (objects_on p (remove m h) c (page_of p x.place)) (slots_of p c) (omega arith)
              ] in
              omega arith)
          | inr (inr room) ↦ (let r : not_full_pages p m c < bound_of p c = rw is at room in omega arith)
        ])
    | inr ne ↦ (let same = not_full-same p m (remove m h) c (λ g. objects_on-away c g (inr ne)) in rw same (few c lt))
  ]

  -- a free without a move keeps the arrangement sound
  pub sound_freed : IsSound p m → MayLeave → IsSound p (remove m h)
  sound_freed s may = record {
    slots = λ q y e. s.slots q y (some_removed m h q y e).1;
    own_place = λ q y r z e e' ne. s.own_place q y r z (some_removed m h q y e).1 (some_removed m h r z e').1 ne;
    one_class = λ q y r z e e'. s.one_class q y r z (some_removed m h q y e).1 (some_removed m h r z e').1;
    few_not_full = few_after_free ((s.slots h x some).page) s.few_not_full may;
  }

  -- another object of the class takes the address of x
  module _ (q : ℕ) (bytes : List ℕ) (free : get (remove m h) q ≡ None) (class : class_at p (record { place = x.place; bytes = bytes }) ≡ class_at p x) where
    pub objects_on-exchanged : (c page : ℕ) → objects_on p (insert (remove m h) q (record { place = x.place; bytes = bytes })) c page ≡ objects_on p m c page
    objects_on-exchanged c page =
        let i = objects_on-inserted p (remove m h) q (record { place = x.place; bytes = bytes }) free c page in
        let r = objects_on-removed c page in
        let c : one (is_on p c page (record { place = x.place; bytes = bytes })) ≡ one (is_on p c page x) =
        ap (λ s. one (nat_eq (page_of p x.place) page && nat_eq s c)) class in
        omega arith

    pub sound_exchanged : IsSound p m → IsSound p (insert (remove m h) q (record { place = x.place; bytes = bytes }))
    sound_exchanged s = record {
      slots = λ r y e. elim (some_inserted (remove m h) q (record { place = x.place; bytes = bytes }) r y e) [
        | inl (_, same) ↦ rw (← same, class) (s.slots h x some)
        | inr (_, was) ↦ s.slots r y (some_removed m h r y was).1
      ];
      own_place = λ r y t z e f ne. elim (some_inserted (remove m h) q (record { place = x.place; bytes = bytes }) r y e) [
        | inl (is, same) ↦ elim (some_inserted (remove m h) q (record { place = x.place; bytes = bytes }) t z f) [
          | inl (is', _) ↦ absurd (ne (is' ∙ sym is))
          | inr (_, was) ↦ rw (← same) (let o = some_removed m h t z was in s.own_place h x t z some o.1 o.0)
        ]
        | inr (_, was) ↦ elim (some_inserted (remove m h) q (record { place = x.place; bytes = bytes }) t z f) [
          | inl (is', same') ↦ rw (← same') (let o = some_removed m h r y was in λ e. s.own_place h x r y some o.1 o.0 (sym e))
          | inr (_, was') ↦ s.own_place r y t z (some_removed m h r y was).1 (some_removed m h t z was').1 ne
        ]
      ];
      one_class = λ r y t z e f. elim (some_inserted (remove m h) q (record { place = x.place; bytes = bytes }) r y e) [
        | inl (_, same) ↦ elim (some_inserted (remove m h) q (record { place = x.place; bytes = bytes }) t z f) [
          | inl (_, same') ↦ λ _. rw (← same, ← same')
          | inr (_, was) ↦ rw (← same) (λ page. rw class (s.one_class h x t z some (some_removed m h t z was).1 page))
        ]
        | inr (_, was) ↦ elim (some_inserted (remove m h) q (record { place = x.place; bytes = bytes }) t z f) [
          | inl (_, same') ↦ rw (← same') (λ page. rw class (s.one_class r y h x (some_removed m h r y was).1 some page))
          | inr (_, was') ↦ s.one_class r y t z (some_removed m h r y was).1 (some_removed m h t z was').1
        ]
      ];
      few_not_full = λ c lt. (let same = not_full-same p m (insert (remove m h) q (record { place = x.place; bytes = bytes })) c
          (objects_on-exchanged c) in rw same (s.few_not_full c lt));
    }
