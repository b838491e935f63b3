-- What two lists of needs both declare (`in_both`): of each length the smaller number. If a program is within one list before a call and within the other after
-- it, each class has, before or after the call, at most the objects that both declare, as have the objects beside a resized one; if the call resizes an object
-- within its class, that class may have one more.
use Rattle.std.proofs.Common.{◌≡◌, ◌≢◌, ℕ, zero, suc, ◌+◌, ◌-◌, ◌<◌, ◌≤◌, List, [], ◌∷◌, Some, cond, drop, length, min, replicate, arith, ap, sym, ◌∙◌, inl, inr, refl, subst}
use Rattle.std.specs.Prelude.{◌⊎◌, nat_eq}
use Rattle.std.specs.FinMap.{get, insert, remove}
use Rattle.std.proofs.lemmas.Bool.{cases_eq, cases_lt}
use Rattle.std.proofs.lemmas.List.{ext_get_or}
use Rattle.std.proofs.lemmas.List.Sums.{sum_by-cons}
use Rattle.std.proofs.Math.Nat.{le-min, min-eq_left, min-eq_right, min-le_left, min-le_right}
use Rattle.cf_base.proofs.Maps.{get_removed}
use Rattle.cf_base.proofs.MapValues.{map_values-insert}
use Rattle.cf_base.proofs.Ranges.{one}
use Rattle.cf_base.proofs.Sums.{insert_again, sum_by-inserted, sum_by-removed}
use Rattle.cf_base.proofs.Tests.{eq_no, eq_yes}
use Rattle.page_model.specs.Arrangement.{IsSound, class_at, live}
use Rattle.page_model.specs.Held.{Held, Objects, Placed, objects}
use Rattle.page_model.specs.Paging.{IsPaging, Paging, class_for, classes}
use Rattle.page_model.specs.Steps.{resized, resized_at}
use Rattle.page_model.proofs.CallerLemmas.{bytes_held, bytes_missing, free_objects, length-resized, live_added, live_taken, malloc_objects}
use Rattle.quota_model.specs.Admission.{declared, declared_in_all, in_order, live_of}
use Rattle.quota_model.specs.declared.results.Need.{Need}
use Rattle.quota_model.proofs.CallerLemmas.{contained, declared_is, live_of-inserted}
use Rattle.sizing.specs.Certificates.{in_both, one_more_of}
use Rattle.sizing.specs.Checks.{common_entry, need_at}
use Rattle.sizing.specs.Demands.{HasAtMost, KeepsTo, count_in}
use Rattle.sizing.specs.Runs.{Does, HeapCall, ResizesWithin, free_of, malloc_of, resize_of, write_of}
use Rattle.sizing.proofs.Calls.{objects_changed}
use Rattle.sizing.proofs.MostLive.{declared_few}

-- ---- what two lists of needs both declare

least_of_both : (r b e : ℕ) → min e (b - r) + min r b ≡ min (e + r) b
least_of_both r b e = elim (cases_lt r b) [
  | inl lt ↦ (
      let here : min r b ≡ r = min-eq_left (omega arith) in
      elim (cases_lt (e + r) b) [
        | inl few ↦ (
            let u : min e (b - r) ≡ e = min-eq_left (omega arith) in
            let v : min (e + r) b ≡ e + r = min-eq_left (omega arith) in
            omega arith)
        | inr many ↦ (
            let u : min e (b - r) ≡ b - r = min-eq_right (omega arith) in
            let v : min (e + r) b ≡ b = min-eq_right (omega arith) in
            omega arith)
      ])
  | inr ge ↦ (
      let here : min r b ≡ b = min-eq_right (omega arith) in
      let u : min e (b - r) ≡ b - r = min-eq_right (omega arith) in
      let v : min (e + r) b ≡ b = min-eq_right (omega arith) in
      omega arith)
]

-- of each length the smaller number
pub declared-in_both : (needs others : List Need) (n : ℕ) → declared (in_both needs others) n ≡ min (declared needs n) (declared others n)
declared-in_both [] others n = sym (min-eq_left (omega arith))
declared-in_both (e ∷ rest) others n =
    let f = λ (x : Need). cond (nat_eq x.bytes n) x.count 0 in
    let e' : Need = record { bytes = e.bytes; count = min e.count (declared others e.bytes - declared rest e.bytes) } in
    let both = sum_by-cons f e' (in_both rest others) in
    let all = sum_by-cons f e rest in
    let more = declared-in_both rest others n in
    elim (cases_eq e.bytes n) [
      | inl is ↦ (
          let yes = eq_yes e.bytes n is in
          let u : f e' ≡ min e.count (declared others n - declared rest n) = rw yes (ap (λ k. min e.count (declared others k - declared rest k)) is) in
          let v : f e ≡ e.count = rw yes refl in
          let least = least_of_both (declared rest n) (declared others n) e.count in
          let sum : declared (in_both (e ∷ rest) others) n ≡ min (e.count + declared rest n) (declared others n) = omega arith in
          let whole : declared (e ∷ rest) n ≡ e.count + declared rest n = omega arith in
          sum ∙ ap (λ k. min k (declared others n)) (sym whole))
      | inr ne ↦ (
          let no = eq_no e.bytes n ne in
          let u : f e' ≡ 0 = rw no refl in
          let v : f e ≡ 0 = rw no refl in
          let sum : declared (in_both (e ∷ rest) others) n ≡ min (declared rest n) (declared others n) = omega arith in
          let whole : declared (e ∷ rest) n ≡ declared rest n = omega arith in
          sum ∙ ap (λ k. min k (declared others n)) (sym whole))
    ]

-- entry by entry
length-in_both : (needs others : List Need) → length (in_both needs others) ≡ length needs
length-in_both [] others = refl
length-in_both (e ∷ rest) others = ap suc (length-in_both rest others)

entry-in_both : (needs others : List Need) (k : ℕ) → k < length needs → need_at (in_both needs others) k ≡ common_entry needs others k
entry-in_both [] others k lt = absurd (omega arith)
entry-in_both (e ∷ rest) others zero lt = refl
entry-in_both (e ∷ rest) others (suc k) lt =
    let next : suc (k + 1) ≡ suc k + 1 = omega arith in
    subst (λ i. need_at (in_both rest others) k ≡ record {
      bytes = (need_at rest k).bytes;
      count = min (need_at rest k).count (declared others (need_at rest k).bytes - declared (drop i (e ∷ rest)) (need_at rest k).bytes);
    }) next (entry-in_both rest others k (omega arith))

pub both_is : (needs others made : List Need) → length made ≡ length needs → ((k : ℕ) → k < length needs → need_at made k ≡ common_entry needs others k)
    → made ≡ in_both needs others
both_is needs others made long each = ext_get_or (record { bytes = 0; count = 0 }) made (in_both needs others) (long ∙ sym (length-in_both needs others))
    (λ k lt. (let less : k < length needs = omega arith in each k less ∙ sym (entry-in_both needs others k less)))

-- they are at most all
pub both_few : (needs others : List Need) → declared_in_all (in_both needs others) ≤ declared_in_all needs
both_few [] others = omega arith
both_few (e ∷ rest) others =
    let e' : Need = record { bytes = e.bytes; count = min e.count (declared others e.bytes - declared rest e.bytes) } in
    let both = sum_by-cons (λ (x : Need). x.count) e' (in_both rest others) in
    let all = sum_by-cons (λ (x : Need). x.count) e rest in
    let few = min-le_left e.count (declared others e.bytes - declared rest e.bytes) in
    let more = both_few rest others in
    omega arith

-- of each class they are at most those of the second
pub kept_few : (p : Paging) (needs others : List Need) (c : ℕ) → count_in p (in_both needs others) c ≤ count_in p others c
kept_few p needs others c = contained (in_order (in_both needs others)) (in_order others) (λ n. (
    let a = declared_is (in_both needs others) n in
    let b = declared_is others n in
    let is = declared-in_both needs others n in
    let le = min-le_right (declared needs n) (declared others n) in
    omega arith)) (λ n. nat_eq (class_for p n) c)

keeps_both : (needs others : List Need) (o : Objects) → KeepsTo needs o → KeepsTo others o → KeepsTo (in_both needs others) o
keeps_both needs others o first second n =
    let is = declared-in_both needs others n in
    let least = le-min (first n) (second n) in
    omega arith

-- ---- one object with other bytes

module _ (o : Objects) (h : ℕ) (v w : List ℕ) (there : get o h ≡ Some v) where
  rest_of : (n : ℕ) → live_of (remove o h) n + one (nat_eq (length v) n) ≡ live_of o n
  rest_of n = sum_by-removed (λ (x : List ℕ). one (nat_eq (length x) n)) o h v there

  changed_of : (n : ℕ) → live_of (insert o h w) n ≡ live_of (remove o h) n + one (nat_eq (length w) n)
  changed_of n = sym (ap (λ (x : Objects). live_of x n) (insert_again o h w))
      ∙ sum_by-inserted (λ (x : List ℕ). one (nat_eq (length x) n)) (remove o h) h w (get_removed o h)

  changed_live : (p : Paging) (c : ℕ) → live p (insert o h w) c ≡ live p (remove o h) c + one (nat_eq (class_for p (length w)) c)
  changed_live p c = sym (ap (λ (x : Objects). live p x c) (insert_again o h w)) ∙ live_added p (remove o h) h w c (get_removed o h)

-- ---- over a call

-- of each class at most `kept` objects are there before a call, or after it
abbrev pub StaysOver : Paging → (ℕ → ℕ) → Objects → Objects → Type 0
StaysOver p kept old new = (c : ℕ) → c < classes p → (live p old c ≤ kept c) ⊎ (live p new c ≤ kept c)

-- each of the two lists declares more objects of class c than both do, and one of these stays too
pub record StaysResized (p : Paging) (needs others : List Need) (old new : Objects) (c : ℕ) : Type 0 where
  pub inside : c < classes p
  pub before : count_in p (in_both needs others) c < count_in p needs c
  pub after : count_in p (in_both needs others) c < count_in p others c
  pub stays : StaysOver p (one_more_of c (count_in p (in_both needs others))) old new

module _ (p : Paging) (needs others : List Need) where
  -- what stays of each class
  abbrev shared : ℕ → ℕ
  shared = count_in p (in_both needs others)

  -- objects that are there before and after
  few_shared : (o old new : Objects) → KeepsTo needs old → KeepsTo others new → ((n : ℕ) → live_of o n ≤ live_of old n) → ((n : ℕ) → live_of o n ≤ live_of new n)
      → HasAtMost p shared o
  few_shared o old new first second under over = declared_few p (in_both needs others) o
      (keeps_both needs others o (λ n. (let a = first n in let b = under n in omega arith)) (λ n. (let a = second n in let b = over n in omega arith)))

  module _ (o : Objects) (h : ℕ) (v w : List ℕ) (there : get o h ≡ Some v) (first : KeepsTo needs o) (second : KeepsTo others (insert o h w)) where
    changed_same : length w ≡ length v → StaysOver p shared o (insert o h w)
    changed_same same c lt = inl (few_shared o o (insert o h w) first second (λ n. omega arith)
        (λ n. (
        let a = rest_of o h v w there n in
        let b = changed_of o h v w there n in
        let e : one (nat_eq (length w) n) ≡ one (nat_eq (length v) n) = ap (λ k. one (nat_eq k n)) same in
        omega arith)) c lt)

    pub left_few : HasAtMost p shared (remove o h)
    left_few = few_shared (remove o h) o (insert o h w) first second (λ n. (let a = rest_of o h v w there n in omega arith))
        (λ n. (let b = changed_of o h v w there n in omega arith))

    -- in another class than the old one's, no more are there before
    other_class : (c : ℕ) → c < classes p → class_for p (length v) ≢ c → live p o c ≤ shared c
    other_class c lt ne =
        let few = left_few c lt in
        let taken = live_taken p o h v c there in
        let no : one (nat_eq (class_for p (length v)) c) ≡ 0 = ap one (eq_no (class_for p (length v)) c ne) in
        omega arith

    changed_across : class_for p (length w) ≢ class_for p (length v) → StaysOver p shared o (insert o h w)
    changed_across other c lt = elim (cases_eq (class_for p (length v)) c) [
      | inl is ↦ inr (
          let few = left_few c lt in
          let now = changed_live o h v w there p c in
          let no : one (nat_eq (class_for p (length w)) c) ≡ 0 = ap one (eq_no (class_for p (length w)) c (λ e. other (e ∙ sym is))) in
          omega arith)
      | inr ne ↦ inl (other_class c lt ne)
    ]

    changed_within : class_for p (length w) ≡ class_for p (length v) → class_for p (length v) < classes p
        → StaysOver p shared o (insert o h w) ⊎ StaysResized p needs others o (insert o h w) (class_for p (length v))
    changed_within same inside =
        let few = left_few (class_for p (length v)) inside in
        let taken = live_taken p o h v (class_for p (length v)) there in
        let now = changed_live o h v w there p (class_for p (length v)) in
        let was_one : one (nat_eq (class_for p (length v)) (class_for p (length v))) ≡ 1 = ap one (eq_yes (class_for p (length v)) (class_for p (length v)) refl) in
        let is_one : one (nat_eq (class_for p (length w)) (class_for p (length v))) ≡ 1 = ap one (eq_yes (class_for p (length w)) (class_for p (length v)) same) in
        elim (cases_lt (shared (class_for p (length v))) (live p o (class_for p (length v)))) [
          | inr fine ↦ inl (λ c lt. inl (elim (cases_eq (class_for p (length v)) c) [
            | inl is ↦ subst (λ d. live p o d ≤ shared d) is fine
            | inr ne ↦ other_class c lt ne
          ]))
          | inl more ↦ inr (record {
            inside = inside;
            before = (let a = declared_few p needs o first (class_for p (length v)) inside in omega arith);
            after = (let b = declared_few p others (insert o h w) second (class_for p (length v)) inside in omega arith);
            stays = λ c lt. inl (elim (cases_eq c (class_for p (length v))) [
              | inl is ↦ subst (λ d. live p o d ≤ one_more_of (class_for p (length v)) shared d) (sym is)
                  (rw (eq_yes (class_for p (length v)) (class_for p (length v)) refl) (omega arith))
              | inr ne ↦ rw (eq_no c (class_for p (length v)) ne) (other_class c lt (λ e. ne (sym e)))
            ]);
          })
        ]

  module _ (ok : IsPaging p) (old : Held) (s : IsSound p old) where
    -- over a call what both needs declare stays, and one object more of a class if the call resizes it within the class
    pub stays_over : (call : HeapCall) (new : Held) → Does p old call new → KeepsTo needs (objects old) → KeepsTo others (objects new)
        → StaysOver p shared (objects old) (objects new) ⊎ (ResizesWithin p old call × ((c : ℕ) × StaysResized p needs others (objects old) (objects new) c))
    stays_over (malloc_of h n) new step first second =
        let now : objects new ≡ insert (objects old) h (replicate n 0) = ap objects step.placed ∙ malloc_objects old h step.place n in
        inl (λ c lt. inl (few_shared (objects old) (objects old) (objects new) first second (λ q. omega arith)
        (λ q. (
        let a = live_of-inserted (objects old) h n q (bytes_missing old h step.unused) in
        let e = ap (λ (o : Objects). live_of o q) now in
        omega arith)) c lt))
    stays_over (free_of h) new step first second =
        let gone = step.1 in
        let now : objects new ≡ remove (objects old) h = ap objects gone.left ∙ free_objects p ok old s h gone.freed gone.found step.0 gone.moves in
        inl (λ c lt. inr (few_shared (objects new) (objects old) (objects new) first second
        (λ q. (
        let a = rest_of (objects old) h (gone.freed).bytes [] (bytes_held old h gone.freed gone.found) q in
        let e = ap (λ (o : Objects). live_of o q) now in
        omega arith)) (λ q. omega arith) c lt))
    stays_over (write_of h v) new step first second =
        let x = step.object in
        let now : objects new ≡ insert (objects old) h v = ap objects step.left ∙ map_values-insert (λ (y : Placed). y.bytes) old h (record x { bytes = v }) in
        inl (subst (StaysOver p shared (objects old)) (sym now)
        (changed_same (objects old) h x.bytes v (bytes_held old h x step.found) first (subst (KeepsTo others) now second) step.long))
    stays_over (resize_of h n) new (moved, inl step) first second =
        let x = step.object in
        let long = length-resized x.bytes n in
        let now : objects new ≡ insert (objects old) h (resized x.bytes n) =
        ap objects step.placed ∙ map_values-insert (λ (y : Placed). y.bytes) old h (resized_at x.place x n) in
        let second' = subst (KeepsTo others) now second in
        elim (cases_eq n (length x.bytes)) [
          | inl same ↦ inl (subst (StaysOver p shared (objects old)) (sym now)
              (changed_same (objects old) h x.bytes (resized x.bytes n) (bytes_held old h x step.found) first second' (long ∙ same)))
          | inr ne ↦ elim (changed_within (objects old) h x.bytes (resized x.bytes n) (bytes_held old h x step.found) first second' (ap (class_for p) long ∙ step.same)
              (s.slots h x step.found).class) [
                | inl fine ↦ inl (subst (StaysOver p shared (objects old)) (sym now) fine)
                | inr more ↦ inr ((x, step.found, step.same, ne), (class_at p x, subst (λ o. StaysResized p needs others (objects old) o (class_at p x)) (sym now) more))
              ]
        ]
    stays_over (resize_of h n) new (moved, inr step) first second =
        let x = step.object in
        let now : objects new ≡ insert (objects old) h (resized x.bytes n) =
        objects_changed p ok old s (record { number = h; length = n }) (record { held = new; moved = moved }) step in
        inl (subst (StaysOver p shared (objects old)) (sym now)
        (changed_across (objects old) h x.bytes (resized x.bytes n) (bytes_held old h x step.found) first (subst (KeepsTo others) now second)
        (λ e. step.other (sym (ap (class_for p) (length-resized x.bytes n)) ∙ e))))
