-- A class has no slot left if and only if none of its pages is partly full and no page is free. How many pages there then are at most. The pages in use are
-- those that hold an object. For the laws of `room.rt`, `RoomAtOne` and `Adding`.
use Rattle.std.proofs.Common.{◌≡◌, ℕ, zero, suc, Bool, true, false, ◌+◌, ◌-◌, ◌*◌, ◌/◌, ◌%◌, ◌<◌, ◌≤◌, List, [], ◌∷◌, Some, arith, sym, ◌∙◌, inl, inr, ap}
use Rattle.std.proofs.Common.{refl}
use Rattle.std.specs.Prelude.{sum_by, count_by, ◌&&◌, ◌↔◌, nat_eq, nat_lt, filter, not}
use Rattle.std.specs.List.{range_with_len}
use Rattle.std.proofs.lemmas.List.Sums.{sum_by-cons}
use Rattle.std.proofs.lemmas.Bool.{cases_eq, cases_lt}
use Rattle.std.proofs.lemmas.Nat.{div-add-mod'}
use Rattle.std.specs.FinMap.{get}
use Rattle.cf_base.proofs.Ranges.{one}
use Rattle.page_model.specs.Held.{Held, Placed, objects}
use Rattle.page_model.specs.Paging.{Paging, IsPaging, classes, slots_of, bound_of, page_of}
use Rattle.page_model.specs.Counts.{LieOn, most_pages}
use Rattle.page_model.specs.Arrangement.{class_at, live, objects_on, count_on, pages_of_class, not_full_pages, used_pages, free_pages, most_pages_besides}
use Rattle.page_model.specs.Arrangement.{IsSound, LacksRoom}
use Rattle.cf_base.proofs.Tests.{eq_yes, eq_no}
use Rattle.page_model.proofs.Counting.{less_counts, not_less_counts_none, here, counted_here, on_page, standing}
use Rattle.page_model.proofs.Totals.{sum_same, sum_plus, sum_zeros, count_at}
use Rattle.page_model.proofs.PageCounts.{slots_some, sound_stand, sound_can_hold}
use Rattle.page_model.proofs.PageLaws.{between_multiples, most_pages_least}

-- a sum over xs of sums over ys is the sum over ys of sums over xs
swap_sums : {X Y : Type 0} (f : X → Y → ℕ) (xs : List X) (ys : List Y) → sum_by (λ x. sum_by (f x) ys) xs ≡ sum_by (λ y. sum_by (λ x. f x y) xs) ys
swap_sums f [] ys = sym (sum_zeros (λ y. 0) ys (λ _. refl))
swap_sums f (x ∷ xs) ys =
    let a = sum_by-cons (λ x. sum_by (f x) ys) x xs in
    let b = swap_sums f xs ys in
    let c = sum_plus (f x) (λ y. sum_by (λ x. f x y) xs) ys in
    let d = sum_same (λ y. sum_by (λ x. f x y) (x ∷ xs)) (λ y. f x y + sum_by (λ x. f x y) xs) ys (λ y. sum_by-cons (λ x. f x y) x xs) in
    omega arith

module _ (f g : ℕ → ℕ) where
  sum_kept : (keep : ℕ → Bool) (a n : ℕ) → ((d : ℕ) → a ≤ d → d < a + n → f d ≤ g d)
      → sum_by f (filter keep (range_with_len a n)) ≤ sum_by g (filter keep (range_with_len a n))
  sum_kept keep a zero le = omega arith
  sum_kept keep a (suc n) le = go (keep a) refl (sum_kept keep (a + 1) n (λ d l h. le d (omega arith) (omega arith))) (le a (omega arith) (omega arith))
    where
      go : (b : Bool) → keep a ≡ b → sum_by f (filter keep (range_with_len (a + 1) n)) ≤ sum_by g (filter keep (range_with_len (a + 1) n)) → f a ≤ g a
          → sum_by f (filter keep (range_with_len a (suc n))) ≤ sum_by g (filter keep (range_with_len a (suc n)))
      go true e rest first = (
          let x = sum_by-cons f a (filter keep (range_with_len (a + 1) n)) in
          let y = sum_by-cons g a (filter keep (range_with_len (a + 1) n)) in
          rw e (omega arith))
      go false e rest first = rw e rest

-- the sum over the numbers other than c
module _ (f : ℕ → ℕ) (c : ℕ) where
  abbrev others : ℕ → ℕ → List ℕ
  others a n = filter (λ d. not (nat_eq d c)) (range_with_len a n)

  past : (a n : ℕ) → c < a → sum_by f (others a n) ≡ sum_by f (range_with_len a n)
  past a zero lt = refl
  past a (suc n) lt =
      let e : nat_eq a c ≡ false = eq_no a c (omega arith) in
      let x = sum_by-cons f a (range_with_len (a + 1) n) in
      let y = sum_by-cons f a (others (a + 1) n) in
      let rest = past (a + 1) n (omega arith) in
      rw e (omega arith)

  sum_others : (a n : ℕ) → a ≤ c → c < a + n → f c + sum_by f (others a n) ≡ sum_by f (range_with_len a n)
  sum_others a zero low high = absurd (omega arith)
  sum_others a (suc n) low high =
      let x = sum_by-cons f a (range_with_len (a + 1) n) in
      elim (cases_eq a c) [
        | inl is ↦ (
            let e : nat_eq a c ≡ true = eq_yes a c is in
            let rest = past (a + 1) n (omega arith) in
            let u : f a ≡ f c = ap f is in
            rw e (omega arith))
        | inr ne ↦ (
            let e : nat_eq a c ≡ false = eq_no a c ne in
            let y = sum_by-cons f a (others (a + 1) n) in
            let rest = sum_others (a + 1) n (omega arith) (omega arith) in
            rw e (omega arith))
      ]

-- counts over a range
module _ (f : ℕ → Bool) where
  count_le : (a n : ℕ) → count_by f (range_with_len a n) ≤ n
  count_le a zero = omega arith
  count_le a (suc n) = (
      let x = sum_by-cons (λ p. one (f p)) a (range_with_len (a + 1) n) in
      let rest = count_le (a + 1) n in
      let l = at_most (f a) in omega arith)
    where
      at_most : (b : Bool) → one b ≤ 1
      at_most true = omega arith
      at_most false = omega arith

  count_all : (a n : ℕ) → ((d : ℕ) → a ≤ d → d < a + n → one (f d) ≡ 1) → count_by f (range_with_len a n) ≡ n
  count_all a zero all = refl
  count_all a (suc n) all =
      let x = sum_by-cons (λ p. one (f p)) a (range_with_len (a + 1) n) in
      let rest = count_all (a + 1) n (λ d l h. all d (omega arith) (omega arith)) in
      let e = all a (omega arith) (omega arith) in
      omega arith

  all_counted : (a n : ℕ) → count_by f (range_with_len a n) ≡ n → (d : ℕ) → a ≤ d → d < a + n → one (f d) ≡ 1
  all_counted a zero is d low high = absurd (omega arith)
  all_counted a (suc n) is d low high =
      let x = sum_by-cons (λ p. one (f p)) a (range_with_len (a + 1) n) in
      let most = count_le (a + 1) n in
      let l = at_most (f a) in
      elim (cases_eq d a) [
        | inl same ↦ rw same (omega arith)
        | inr ne ↦ all_counted (a + 1) n (omega arith) d (omega arith) (omega arith)
      ]
    where
      at_most : (b : Bool) → one b ≤ 1
      at_most true = omega arith
      at_most false = omega arith

module _ (p : Paging) (m : Held) (s : IsSound p m) where
  -- the number of pages that hold an object
  abbrev pub occupied_pages : ℕ
  occupied_pages = count_by (λ g. nat_lt 0 (count_on p m g)) (range_with_len 0 p.pages)

  -- the objects of a page have one class
  one_home : (g : ℕ) → one (nat_lt 0 (count_on p m g)) ≡ sum_by (λ c. one (nat_lt 0 (objects_on p m c g))) (range_with_len 0 (classes p))
  one_home g = elim (cases_lt 0 (count_on p m g)) [
    | inl some ↦ (
        let o = standing p m g some in
        of_class o.0 o.1 o.2 o.3 some)
    | inr none ↦ (
        let e = not_less_counts_none 0 (count_on p m g) none in
        let z = sum_zeros (λ c. one (nat_lt 0 (objects_on p m c g))) (range_with_len 0 (classes p))
        (λ c. not_less_counts_none 0 (objects_on p m c g) (elim (cases_lt 0 (objects_on p m c g)) [
          | inl some ↦ absurd (let o = on_page p m c g some in let t = counted_here p m o.0 o.1 o.2 in let t' : 0 < count_on p m g =
              rw (← o.3) t in omega arith)
          | inr le ↦ le
        ])) in
        omega arith)
  ]
    where
      of_class : (q : ℕ) (y : Placed) → get m q ≡ Some y → page_of p y.place ≡ g → 0 < count_on p m g
          → one (nat_lt 0 (count_on p m g)) ≡ sum_by (λ c. one (nat_lt 0 (objects_on p m c g))) (range_with_len 0 (classes p))
      of_class q y f is some =
          let e = less_counts 0 (count_on p m g) some in
          let h : 0 < objects_on p m (class_at p y) g = rw is at (here p m q y f) in
          let same = sum_same (λ c. one (nat_lt 0 (objects_on p m c g))) (λ c. one (nat_eq (class_at p y) c && true)) (range_with_len 0 (classes p))
          (λ c. elim (cases_eq (class_at p y) c) [
            | inl eq ↦ (let a = eq_yes _ _ eq in let h' : 0 < objects_on p m c g = rw eq at h in rw a (less_counts 0 (objects_on p m c g) h'))
            | inr ne ↦ (let a = eq_no _ _ ne in rw a (not_less_counts_none 0 (objects_on p m c g) (elim (cases_lt 0 (objects_on p m c g)) [
              | inl there ↦ absurd (let o = on_page p m c g there in ne (s.one_class q y o.0 o.1 f o.2 (is ∙ sym o.3) ∙ o.4))
              | inr le ↦ le
            ])))
          ]) in
          let at = count_at (class_at p y) (classes p) true (s.slots q y f).class in
          omega arith

  -- the pages in use are those that hold an object
  pub used_is : used_pages p m ≡ occupied_pages
  unfolding used_pages pages_of_class
  used_is = sym (sum_same (λ g. one (nat_lt 0 (count_on p m g))) (λ g. sum_by (λ c. one (nat_lt 0 (objects_on p m c g))) (range_with_len 0 (classes p)))
      (range_with_len 0 p.pages) one_home
      ∙ swap_sums (λ g c. one (nat_lt 0 (objects_on p m c g))) (range_with_len 0 p.pages) (range_with_len 0 (classes p)))

  pub used_le : used_pages p m ≤ p.pages
  used_le = (let e = used_is in let l = count_le (λ g. nat_lt 0 (count_on p m g)) 0 p.pages in omega arith)

  -- if every page holds an object, the pages in use are all
  pub none_free : ((page : ℕ) → page < p.pages → 0 < count_on p m page) → used_pages p m ≡ p.pages
  none_free all = used_is ∙ count_all (λ g. nat_lt 0 (count_on p m g)) 0 p.pages (λ d _ h. less_counts 0 (count_on p m d) (all d (omega arith)))

  pub all_taken : used_pages p m ≡ p.pages → (page : ℕ) → page < p.pages → 0 < count_on p m page
  all_taken is page lt = elim (cases_lt 0 (count_on p m page)) [
    | inl some ↦ some
    | inr none ↦ absurd (let e = all_counted (λ g. nat_lt 0 (count_on p m g)) 0 p.pages (sym used_is ∙ is) page (omega arith) (omega arith) in let z =
        not_less_counts_none 0 (count_on p m page) none in omega arith)
  ]

  -- a class has no slot left if and only if none of its pages is partly full and no page is free
  pub lacks_room_is : (c : ℕ) → LacksRoom p m c ↔ ((not_full_pages p m c ≡ 0) × (free_pages p m ≡ 0))
  lacks_room_is c = (
    (λ l. (l.full, (let e = none_free l.taken in omega arith))),
    (λ e. record { full = e.0; taken = all_taken (let z = e.1 in let l = used_le in omega arith) }),
  )

  module _ (ok : IsPaging p) where
    -- if class c has no slot left, its objects fill their pages, and there are at most `most_pages_besides` other pages
    pub lacking : (c : ℕ) → c < classes p → LacksRoom p m c
        → (live p (objects m) c % slots_of p c ≡ 0) × (p.pages ≤ live p (objects m) c / slots_of p c + most_pages_besides p (objects m) c)
    unfolding used_pages most_pages_besides
    lacking c lt l =
        let some = slots_some p ok c lt in
        let filled : live p (objects m) c ≡ pages_of_class p m c * slots_of p c = from_stand _ _ _ _ _ (sound_stand p ok c lt m s) l.full in
        let quotient : live p (objects m) c / slots_of p c ≡ pages_of_class p m c =
        between_multiples (live p (objects m) c) (pages_of_class p m c) (slots_of p c) some (omega arith) (omega arith) in
        let split = div-add-mod' (live p (objects m) c) (slots_of p c) in
        let product : live p (objects m) c / slots_of p c * slots_of p c ≡ pages_of_class p m c * slots_of p c = ap (λ x. x * slots_of p c) quotient in
        let used = none_free l.taken in
        let sum = sum_others (pages_of_class p m) c 0 (classes p) (omega arith) (omega arith) in
        let le = sum_kept (pages_of_class p m) (λ d. most_pages (live p (objects m) d) (slots_of p d) (bound_of p d)) (λ d. not (nat_eq d c)) 0 (classes p)
        (λ d _ h. most_pages_least (pages_of_class p m d) (live p (objects m) d) (slots_of p d) (bound_of p d) (slots_some p ok d (omega arith))
        (sound_can_hold p ok d (omega arith) m s)) in
        (omega arith, omega arith)
      where
        from_stand : (h n k q b : ℕ) → LieOn h n k b q → q ≡ 0 → n ≡ h * k
        from_stand h n k q b st z =
            let least : (h - 0) * k + 0 ≤ n = rw z at st.least in
            let most : n ≤ (h - 0) * k + 0 * (k - 1) = rw z at st.most in
            let e : h - 0 ≡ h = omega arith in
            let least' : h * k + 0 ≤ n = rw e at least in
            let most' : n ≤ h * k + 0 * (k - 1) = rw e at most in
            omega arith
