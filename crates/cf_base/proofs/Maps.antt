-- Finite maps whose keys are numbers: lookups and the number of keys after an insertion or a removal, what two of them on one key come to, and the removal of a
-- missing key. A key has one value, and maps with the same lookups are equal.
use Rattle.std.proofs.Common.{◌≡◌, ◌≢◌, ℕ, cond, ◌+◌, ◌-◌, Some, None, sym, ◌∙◌, ap, refl, inl, inr}
use Rattle.std.specs.Option.{is_some}
use Rattle.std.specs.Prelude.{◌⊎◌}
use Rattle.std.proofs.lemmas.Bool.{cases_eq}
use Rattle.std.specs.Ordering.{nat_cmp}
use Rattle.std.specs.Cmp.{nat_cmp_total}
use Rattle.std.specs.FinMap.{FinMap, get, insert, remove, len, get-insert, get-remove, len-insert, len-remove, nat_cmp-IsAntisymmetric, same_map}
use Rattle.cf_base.proofs.Tests.{tied_no, tied_yes}

module _ {V : Type 0} (m : FinMap nat_cmp V) (h : ℕ) where
  pub get_inserted : (v : V) → get (insert m h v) h ≡ Some v
  get_inserted v = get-insert nat_cmp_total m h v h ∙ ap (λ b. cond b (Some v) (get m h)) (tied_yes h h refl)

  pub get_insert_other : (v : V) (q : ℕ) → q ≢ h → get (insert m h v) q ≡ get m q
  get_insert_other v q ne = get-insert nat_cmp_total m h v q ∙ ap (λ b. cond b (Some v) (get m q)) (tied_no q h ne)

  pub get_removed : get (remove m h) h ≡ None
  get_removed = get-remove nat_cmp_total m h h ∙ ap (λ b. cond b None (get m h)) (tied_yes h h refl)

  pub get_remove_other : (q : ℕ) → q ≢ h → get (remove m h) q ≡ get m q
  get_remove_other q ne = get-remove nat_cmp_total m h q ∙ ap (λ b. cond b None (get m q)) (tied_no q h ne)

  pub len_fresh : (v : V) → get m h ≡ None → len (insert m h v) ≡ len m + 1
  len_fresh v none = len-insert nat_cmp_total m h v ∙ ap (λ o. cond (is_some o) (len m) (len m + 1)) none

  pub len_rebound : (v w : V) → get m h ≡ Some w → len (insert m h v) ≡ len m
  len_rebound v w some = len-insert nat_cmp_total m h v ∙ ap (λ o. cond (is_some o) (len m) (len m + 1)) some

  pub len_gone : (w : V) → get m h ≡ Some w → len (remove m h) ≡ len m - 1
  len_gone w some = len-remove nat_cmp_total m h ∙ ap (λ o. cond (is_some o) (len m - 1) (len m)) some

-- a key has one value
pub found_once : {V : Type 0} (m : FinMap nat_cmp V) (q : ℕ) (x y : V) → get m q ≡ Some x → get m q ≡ Some y → x ≡ y
found_once m q x y a b = (let e : Some x ≡ Some y = sym a ∙ b in cc)

-- maps with the same lookups are equal
pub equal_maps : {V : Type 0} (m n : FinMap nat_cmp V) → ((q : ℕ) → get m q ≡ get n q) → m ≡ n
equal_maps m n is = same_map nat_cmp_total nat_cmp-IsAntisymmetric m n is

module _ {V : Type 0} (m : FinMap nat_cmp V) (h : ℕ) where
  -- what is found after a removal was there before
  pub some_removed : (q : ℕ) (y : V) → get (remove m h) q ≡ Some y → (q ≢ h) × (get m q ≡ Some y)
  some_removed q y p = elim (cases_eq q h) [
    | inl is ↦ absurd (let none : get (remove m h) q ≡ None = rw is (get_removed m h) in cc)
    | inr ne ↦ (ne, sym (get_remove_other m h q ne) ∙ p)
  ]

  -- what is found after an insertion is new, or was there before
  pub some_inserted : (x : V) (q : ℕ) (y : V) → get (insert m h x) q ≡ Some y → ((q ≡ h) × (x ≡ y)) ⊎ ((q ≢ h) × (get m q ≡ Some y))
  some_inserted x q y p = elim (cases_eq q h) [
    | inl is ↦ inl (is, (let e : get (insert m h x) q ≡ Some x = rw is (get_inserted m h x) in cc))
    | inr ne ↦ inr (ne, sym (get_insert_other m h x q ne) ∙ p)
  ]

-- the second of two values under one key replaces the first
pub insert_twice : {V : Type 0} (m : FinMap nat_cmp V) (h : ℕ) (v w : V) → insert (insert m h v) h w ≡ insert m h w
insert_twice m h v w = equal_maps _ _ (λ q. elim (cases_eq q h) [
  | inl is ↦ rw is (get_inserted (insert m h v) h w ∙ sym (get_inserted m h w))
  | inr ne ↦ get_insert_other (insert m h v) h w q ne ∙ get_insert_other m h v q ne ∙ sym (get_insert_other m h w q ne)
])

-- removing a key that is missing changes nothing
pub remove_missing : {V : Type 0} (m : FinMap nat_cmp V) (h : ℕ) → get m h ≡ None → remove m h ≡ m
remove_missing m h none = equal_maps _ _ (λ q. elim (cases_eq q h) [
  | inl is ↦ rw is (get_removed m h ∙ sym none)
  | inr ne ↦ get_remove_other m h q ne
])

-- removing a key that was inserted leaves the map without the key
pub remove_inserted : {V : Type 0} (m : FinMap nat_cmp V) (h : ℕ) (v : V) → remove (insert m h v) h ≡ remove m h
remove_inserted m h v = equal_maps _ _ (λ q. elim (cases_eq q h) [
  | inl is ↦ rw is (get_removed (insert m h v) h ∙ sym (get_removed m h))
  | inr ne ↦ get_remove_other (insert m h v) h q ne ∙ get_insert_other m h v q ne ∙ sym (get_remove_other m h q ne)
])

pub remove_fresh : {V : Type 0} (m : FinMap nat_cmp V) (h : ℕ) (v : V) → get m h ≡ None → remove (insert m h v) h ≡ m
remove_fresh m h v none = remove_inserted m h v ∙ remove_missing m h none
