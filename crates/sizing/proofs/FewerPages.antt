-- For `fewer_pages_refuse`, and the same for modes, budgets and `least_pages`: with fewer pages than the declared objects need, one of their mallocs, made in
-- order, is refused for space.
use Rattle.std.proofs.Common.{◌≡◌, ℕ, Bool, ◌+◌, ◌<◌, ◌≤◌, List, [], ◌∷◌, ◌++◌, None, length, replicate, arith, ap, sym, ◌∙◌}
use Rattle.std.proofs.Common.{inl, inr, refl, subst}
use Rattle.std.specs.Prelude.{◌⊎◌, count_by, nat_eq}
use Rattle.std.proofs.lemmas.Bool.{cases_eq}
use Rattle.std.proofs.lemmas.List.{append-nil, append_assoc, length-append, length-replicate}
use Rattle.std.specs.Ordering.{nat_cmp}
use Rattle.std.specs.FinMap.{empty, get, insert, len, len-empty, values}
use Rattle.cf_base.specs.Settings.{Profile}
use Rattle.cf_base.proofs.Maps.{len_fresh}
use Rattle.cf_base.proofs.Ranges.{one}
use Rattle.cf_base.proofs.Searches.{fresh_key}
use Rattle.cf_base.proofs.Sums.{sum_by-inserted}
use Rattle.cf_base.proofs.Values.{no_values}
use Rattle.page_model.specs.Arrangement.{IsSound, LacksRoom, free_pages, live, not_full_pages, pages_needed}
use Rattle.page_model.specs.Held.{Held, Objects, Placed, objects}
use Rattle.page_model.specs.Order.{IsOrderOf, Order}
use Rattle.page_model.specs.Paging.{IsPaging, Paging, class_for}
use Rattle.page_model.specs.Steps.{PlacesObject, zeros_at}
use Rattle.page_model.proofs.CallerLemmas.{bytes_missing, can_malloc, class_fits, first_is_order, malloc_objects, no_objects, pages_same, sound_empty, sound_malloc}
use Rattle.page_model.proofs.Enough.{needed_le_used}
use Rattle.page_model.proofs.Lacking.{lacks_room_is, used_le}
use Rattle.quota_model.specs.Admission.{count_of_class, declared, first_large, in_order, live_of, pages_needed_by}
use Rattle.quota_model.specs.declared.results.Need.{Need}
use Rattle.quota_model.proofs.CallerLemmas.{AllFit, all_fit, count-append, count-cons, declared_is, live_of-inserted, times}
use Rattle.sizing.specs.Demands.{KeepsTo}
use Rattle.sizing.specs.Runs.{CanBeRefused, malloc_of}

-- a class lacks room or doesn't
lacks_or_not : (p : Paging) (m : Held) → IsSound p m → (c : ℕ) → LacksRoom p m c ⊎ (¬ LacksRoom p m c)
lacks_or_not p m s c = elim (cases_eq (not_full_pages p m c) 0) [
  | inr some ↦ inr (λ l. some l.full)
  | inl none ↦ elim (cases_eq (free_pages p m) 0) [
    | inl all ↦ inl ((lacks_room_is p m s c).1 (none, all))
    | inr free ↦ inr (λ l. free ((lacks_room_is p m s c).0 l).1)
  ]
]

-- of each length the objects and the list have the same number
record Agrees (m : Held) (pre : List ℕ) : Type 0 where
  count : len m ≡ length pre
  counts : (f : ℕ → Bool) → count_by (λ v. f (length v)) (values (objects m)) ≡ count_by f pre

agrees_first : Agrees empty []
agrees_first = record {
  count = len-empty nat_cmp Placed;
  counts = λ f. ap (λ (o : Objects). count_by (λ v. f (length v)) (values o)) no_objects ∙ ap (count_by (λ (v : List ℕ). f (length v))) no_values;
}

agrees_next : (m : Held) (pre : List ℕ) (h n a : ℕ) → get m h ≡ None → Agrees m pre → Agrees (insert m h (zeros_at a n)) (pre ++ n ∷ [])
agrees_next m pre h n a unused g = record {
  count = (let e = g.count in let k = len_fresh m h (zeros_at a n) unused in let l = length-append pre (n ∷ []) in omega arith);
  counts = λ f. (
      let i = sum_by-inserted (λ v. one (f (length v))) (objects m) h (replicate n 0) (bytes_missing m h unused) in
      let o : count_by (λ v. f (length v)) (values (objects (insert m h (zeros_at a n))))
      ≡ count_by (λ v. f (length v)) (values (insert (objects m) h (replicate n 0))) =
      ap (λ (o : Objects). count_by (λ v. f (length v)) (values o)) (malloc_objects m h a n) in
      let e : one (f (length (replicate {A = ℕ} n 0))) ≡ one (f n) = ap (λ x. one (f x)) (length-replicate {A = ℕ} n 0) in
      let before = g.counts f in
      let j = count-append f pre (n ∷ []) in
      let l = count-cons f n [] in
      let z : count_by f [] ≡ 0 = refl in
      omega arith);
}

-- the pages that the objects need are those of the list
needed_is : (p : Paging) (m : Held) (pre : List ℕ) → Agrees m pre → pages_needed p (objects m) ≡ pages_needed_by p pre
unfolding pages_needed live
needed_is p m pre g = pages_same p (live p (objects m)) (count_of_class p pre) (λ c. g.counts (λ n. nat_eq (class_for p n) c))

module _ (p : Paging) (ok : IsPaging p) (needs : List Need) (limit : ℕ) where
  keeps_next : (m : Held) (h : ℕ) (pre ns : List ℕ) (n : ℕ) → get m h ≡ None → Agrees m pre
      → ((q : ℕ) → times q pre + times q (n ∷ ns) ≤ declared needs q) → KeepsTo needs (insert (objects m) h (replicate n 0))
  keeps_next m h pre ns n unused g le q =
      let a = live_of-inserted (objects m) h n q (bytes_missing m h unused) in
      let b : live_of (objects m) q ≡ times q pre = g.counts (λ r. nat_eq r q) in
      let d = count-cons (λ r. nat_eq r q) n ns in
      let e = le q in
      omega arith

  short : (rest pre : List ℕ) (m : Held) (o : Order) → IsSound p m → IsOrderOf p m limit o → Agrees m pre → AllFit p.page_words rest
      → ((q : ℕ) → times q pre + times q rest ≤ declared needs q) → length pre + length rest ≤ limit → p.pages < pages_needed_by p (pre ++ rest)
      → CanBeRefused p (KeepsTo needs) m
  short [] pre m o s order g fit le few past = absurd (
      let a = needed_le_used p m ok s in
      let b = used_le p m s in
      let c = needed_is p m pre g in
      let d : pages_needed_by p (pre ++ []) ≡ pages_needed_by p pre = ap (pages_needed_by p) (append-nil pre) in
      omega arith)
  short (n ∷ ns) pre m o s order g fit le few past =
      let fits = class_fits p ok n fit.0 in
      elim (lacks_or_not p m s (class_for p n)) [
        | inl lacks ↦ (
            let h = fresh_key (len m + 1) m (omega arith) in
            record {
              calls = [];
              last = m;
              run = refl;
              number = h.0;
              bytes = n;
              lacks = record { unused = h.2; fits = fits; asked = keeps_next m h.0 pre ns n h.2 g le; lacking = lacks };
            })
        | inr room ↦ (
            let can = can_malloc p ok m s limit o order n fits (let e = g.count in omega arith) room in
            let step : PlacesObject p m (record { number = can.number; length = n }) (insert m can.number (zeros_at can.place n)) =
            record { place = can.place; unused = can.unused; free = can.free; placed = refl } in
            let keeps : KeepsTo needs (objects (insert m can.number (zeros_at can.place n))) =
            subst (KeepsTo needs) (sym (malloc_objects m can.number can.place n)) (keeps_next m can.number pre ns n can.unused g le) in
            let rest = short ns (pre ++ n ∷ []) (insert m can.number (zeros_at can.place n)) can.new
            (sound_malloc p m (record { number = can.number; length = n }) (insert m can.number (zeros_at can.place n)) ok s step) can.is_order
            (agrees_next m pre can.number n can.place can.unused g) fit.1
            (λ q. (
            let x = le q in
            let y = count-cons (λ r. nat_eq r q) n ns in
            let z = count-append (λ r. nat_eq r q) pre (n ∷ []) in
            let w = count-cons (λ r. nat_eq r q) n [] in
            let v : times q [] ≡ 0 = refl in
            omega arith))
            (let l = length-append pre (n ∷ []) in omega arith)
            (subst (λ xs. p.pages < pages_needed_by p xs) (sym (append_assoc pre (n ∷ []) ns)) past) in
            record {
              calls = malloc_of can.number n ∷ rest.calls;
              last = rest.last;
              run = (insert m can.number (zeros_at can.place n), step, keeps, rest.run);
              number = rest.number;
              bytes = rest.bytes;
              lacks = rest.lacks;
            })
      ]

pub refused : (p : Paging) → IsPaging p → (needs : List Need) (s : Profile) → s.page_words ≡ p.page_words → first_large s needs ≡ None
    → p.pages < pages_needed_by p (in_order needs) → CanBeRefused p (KeepsTo needs) empty
refused p ok needs s same none past =
    short p ok needs (length (in_order needs)) (in_order needs) [] empty _ (sound_empty p) (first_is_order p (length (in_order needs))) agrees_first
    (subst (λ w. AllFit w (in_order needs)) same (all_fit s needs none))
    (λ q. (let d = declared_is needs q in let z : times q [] ≡ 0 = refl in omega arith)) (omega arith) past
