-- What a malloc, a free and a resize in place do to the bytes by number, to the addresses by number, and to the counts of objects on each page; a rewrite keeps
-- addresses. Also the bytes of an object by its number, and the class of an object of zeros. Inserting in a map the value that is there changes nothing.
use Rattle.std.proofs.Common.{◌≡◌, ◌≢◌, ℕ, ◌+◌, List, Option, Some, None, length, replicate, arith, sym, ◌∙◌, inl, inr, ap, refl}
use Rattle.std.specs.Prelude.{option_map}
use Rattle.std.proofs.lemmas.Bool.{cases_eq}
use Rattle.std.proofs.lemmas.List.{length-replicate}
use Rattle.std.specs.Ordering.{nat_cmp}
use Rattle.std.specs.FinMap.{FinMap, get, insert, remove}
use Rattle.cf_base.proofs.Maps.{equal_maps, get_inserted, get_insert_other, get_removed, get_remove_other}
use Rattle.cf_base.proofs.MapValues.{get-map_values, map_values-insert, map_values-remove}
use Rattle.cf_base.proofs.Ranges.{one}
use Rattle.page_model.specs.Held.{Held, Placed, objects, places}
use Rattle.page_model.specs.Paging.{Paging, IsPaging, class_for}
use Rattle.page_model.specs.Arrangement.{class_at, is_on, objects_on, IsSound}
use Rattle.page_model.specs.Steps.{MustMove, MayFill, Moves, without, zeros_at}
use Rattle.page_model.proofs.Freeing.{objects_on-removed, objects_on-exchanged}
use Rattle.page_model.proofs.FreeSteps.{removed_twice, mover_is_other}

-- inserting the value that is there changes nothing
pub inserted_there : {V : Type 0} (m : FinMap nat_cmp V) (h : ℕ) (v : V) → get m h ≡ Some v → insert m h v ≡ m
inserted_there m h v some = equal_maps _ _ (λ q. elim (cases_eq q h) [
  | inl is ↦ rw is (get_inserted m h v ∙ sym some)
  | inr ne ↦ get_insert_other m h v q ne
])

-- the bytes of an object, by its handle
pub bytes_held : (m : Held) (h : ℕ) (x : Placed) → get m h ≡ Some x → get (objects m) h ≡ Some x.bytes
bytes_held m h x there = get-map_values (λ (y : Placed). y.bytes) m h ∙ ap (option_map (λ (y : Placed). y.bytes)) there

pub bytes_missing : (m : Held) (h : ℕ) → get m h ≡ None → get (objects m) h ≡ None
bytes_missing m h none = get-map_values (λ (y : Placed). y.bytes) m h ∙ ap (option_map (λ (y : Placed). y.bytes)) none

pub held_of_bytes : (m : Held) (h : ℕ) (v : List ℕ) → get (objects m) h ≡ Some v → (x : Placed) × (get m h ≡ Some x) × (x.bytes ≡ v)
held_of_bytes m h v there = go (get m h) refl (sym (get-map_values (λ (y : Placed). y.bytes) m h) ∙ there)
  where
    go : (o : Option Placed) → get m h ≡ o → option_map (λ (y : Placed). y.bytes) o ≡ Some v → (x : Placed) × (get m h ≡ Some x) × (x.bytes ≡ v)
    go None is e = absurd (let z : ◌≡◌ {A = Option (List ℕ)} None (Some v) = e in cc)
    go (Some x) is e = (x, is, (let z : Some x.bytes ≡ Some v = e in cc))

-- the class of an object of zeros is that of its length
pub class_of_zeros : (p : Paging) (a n c : ℕ) → class_for p n ≡ c → class_at p (zeros_at a n) ≡ c
class_of_zeros p a n c class = ap (class_for p) (length-replicate {A = ℕ} n 0) ∙ class

-- a malloc adds an object of zeros
pub malloc_objects : (m : Held) (h a n : ℕ) → objects (insert m h (zeros_at a n)) ≡ insert (objects m) h (replicate n 0)
malloc_objects m h a n = map_values-insert (λ (x : Placed). x.bytes) m h (zeros_at a n)

pub malloc_places : (m : Held) (h a n : ℕ) → places (insert m h (zeros_at a n)) ≡ insert (places m) h a
malloc_places m h a n = map_values-insert (λ (x : Placed). x.place) m h (zeros_at a n)

-- other bytes at the same address change no address
pub rewritten_places : (m : Held) (h : ℕ) (x y : Placed) → get m h ≡ Some x → y.place ≡ x.place → places (insert m h y) ≡ places m
rewritten_places m h x y there same =
    map_values-insert (λ (z : Placed). z.place) m h y ∙ ap (insert (places m) h) same
    ∙ inserted_there (places m) h x.place (get-map_values (λ (z : Placed). z.place) m h ∙ ap (option_map (λ (z : Placed). z.place)) there)

-- a free without a move removes one address
pub still_places : (m : Held) (h a : ℕ) → places (without m h a None) ≡ remove (places m) h
still_places m h a = map_values-remove (λ (x : Placed). x.place) m h

module _ (p : Paging) (ok : IsPaging p) (m : Held) (s : IsSound p m) (h : ℕ) (x : Placed) (found : get m h ≡ Some x) where
  -- a free removes one object's bytes and changes no others
  pub free_objects : (moved : Option ℕ) → Moves p m x moved → objects (without m h x.place moved) ≡ remove (objects m) h
  free_objects None never = map_values-remove (λ (x : Placed). x.bytes) m h
  free_objects (Some q) (must, (y, there, may)) =
      let ne = mover_is_other p ok m s h x found q y there must may in
      let still : get (remove (objects m) h) q ≡ Some y.bytes = get_remove_other (objects m) h q ne ∙ bytes_held m q y there in
      rw there (map_values-insert (λ (x : Placed). x.bytes) (remove m h) q _ ∙ ap (λ o. insert o q y.bytes) (map_values-remove (λ (x : Placed). x.bytes) m h)
      ∙ inserted_there (remove (objects m) h) q y.bytes still)

  module _ (q : ℕ) (y : Placed) (there : get m q ≡ Some y) (must : MustMove p m x) (may : MayFill p m x y) where
    -- the object that moves gets the freed address; no other address changes
    pub moved_places : places (without m h x.place (Some q)) ≡ insert (remove (places m) h) q x.place
    moved_places = rw there (map_values-insert (λ (x : Placed). x.place) (remove m h) q _
        ∙ ap (λ o. insert o q x.place) (map_values-remove (λ (x : Placed). x.place) m h))

    -- the page that the moved object left has one object less
    pub moved_counts : (c page : ℕ) → objects_on p (without m h x.place (Some q)) c page + one (is_on p c page y) ≡ objects_on p m c page
    moved_counts c page =
        let ne = mover_is_other p ok m s h x found q y there must may in
        let ne' : h ≢ q = λ e. ne (sym e) in
        let there' : get (remove m q) h ≡ Some x = get_remove_other m q h ne' ∙ found in
        let gone : get (remove (remove m q) h) q ≡ None = get_remove_other (remove m q) h q ne ∙ get_removed m q in
        let a = objects_on-exchanged p (remove m q) h x there' q y.bytes gone may.class c page in
        let b = objects_on-removed p m q y there c page in
        let same = removed_twice m h q (record { place = x.place; bytes = y.bytes }) in
        let e : objects_on p (insert (remove (remove m q) h) q (record { place = x.place; bytes = y.bytes })) c page ≡ objects_on p
        (insert (remove m h) q (record { place = x.place; bytes = y.bytes })) c page = ap (λ n. objects_on p n c page) same in
        rw there (omega arith)

  -- a free without a move removes one object from its page
  pub freed_counts : (c page : ℕ) → objects_on p (without m h x.place None) c page + one (is_on p c page x) ≡ objects_on p m c page
  freed_counts c page = objects_on-removed p m h x found c page

-- a resize within the class changes no count
pub in_place_counts : (p : Paging) (m : Held) (h n : ℕ) (x : Placed) → get m h ≡ Some x → class_for p n ≡ class_at p x → (v : List ℕ) → length v ≡ n
    → (c page : ℕ) → objects_on p (insert m h (record { place = x.place; bytes = v })) c page ≡ objects_on p m c page
in_place_counts p m h n x found same v len c page =
    let class : class_at p (record { place = x.place; bytes = v }) ≡ class_at p x = ap (class_for p) len ∙ same in
    let e = objects_on-exchanged p m h x found h v (get_removed m h) class c page in
    ap (λ n. objects_on p n c page) (sym again) ∙ e
  where
    again : insert (remove m h) h (record { place = x.place; bytes = v }) ≡ insert m h (record { place = x.place; bytes = v })
    again = equal_maps _ _ (λ q. elim (cases_eq q h) [
      | inl is ↦ rw is (get_inserted _ h _ ∙ sym (get_inserted _ h _))
      | inr ne ↦ get_insert_other _ h _ q ne ∙ get_remove_other m h q ne ∙ sym (get_insert_other _ h _ q ne)
    ])
