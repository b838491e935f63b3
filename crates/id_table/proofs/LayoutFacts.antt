-- For the calls of `IdTable`, a list with one entry for each id: the entry of an id is what the map from live ids to handles, which the list represents, has
-- for it; how a change of an entry changes this map and the count of live ids; when this count is 0; and that a new table and one with a changed entry are
-- valid.
use Rattle.std.proofs.Common.{◌≡◌, ◌∙◌, ℕ, zero, suc, ◌+◌, ◌-◌, ◌<◌, ◌≤◌, Bool, true, false, List, length, get_or, set}
use Rattle.std.proofs.Common.{Option, Some, None, refl, ap, sym, arith, inl, inr}
use Rattle.std.specs.Prelude.{◌↔◌, IsTrue, cond, IsSome, is_some, nat_eq, not}
use Rattle.std.specs.Cmp.{nat_cmp_total}
use Rattle.std.specs.FinMap.{empty, empty_of_len, get, get-empty, insert, len, len-empty, len-remove, remove}
use Rattle.std.specs.Ordering.{nat_cmp}
use Rattle.std.proofs.lemmas.Bool.{cases_lt, false≢true}
use Rattle.std.proofs.lemmas.List.{length-replicate, length-set}
use Rattle.std.proofs.lemmas.List.Sums.{count_by-le-length}
use mir.Val.{bool_byte}
use Rattle.cf_base.specs.Maps.{numbered}
use Rattle.cf_base.proofs.Maps.{len_fresh, len_gone, len_rebound}
use Rattle.cf_base.proofs.Numbered.{get-numbered, len-numbered, numbered-clear, numbered-set, numbered_live}
use Rattle.id_table.specs.Ids.{AreWithin, Ids}
use Rattle.cf_base.specs.Maps.{vacant}
use Rattle.id_table.specs.Layout.{IsValid}

pub numbered-vacant : (n k : ℕ) → numbered k (vacant {X = ℕ} n) ≡ empty
numbered-vacant zero k = refl
numbered-vacant (suc n) k = numbered-vacant n (k + 1)

-- a new table, in which no id is live, is valid
pub none_live : IsValid (vacant {X = ℕ} 65536) 0
none_live = record {
  long = length-replicate {A = Option ℕ} 65536 None;
  counted = sym (ap len (numbered-vacant 65536 0) ∙ len-empty nat_cmp ℕ);
}

some_is_some : (o : Option ℕ) (x : ℕ) → o ≡ Some x → IsSome o
some_is_some o x is = rw is refl

-- removing an id that isn't live keeps the count
len_kept : (ids : Ids) (id : ℕ) → get ids id ≡ None → len (remove ids id) ≡ len ids
len_kept ids id none = len-remove nat_cmp_total ids id ∙ ap (λ (o : Option ℕ). cond (is_some o) (len ids - 1) (len ids)) none

-- if an id is live, the count isn't 0
pub some_live : (ids : Ids) (id h : ℕ) → get ids id ≡ Some h → 0 < len ids
some_live ids id h is = elim (cases_lt 0 (len ids)) [
  | inl some ↦ some
  | inr none ↦ absurd (
      let blank : ids ≡ empty = empty_of_len ids (omega arith) in
      let e : get ids id ≡ None = ap (λ (m : Ids). get m id) blank ∙ get-empty nat_cmp id in
      cc)
]

module _ (numbers : List (Option ℕ)) (ids : Ids) (seen : numbered 0 numbers ≡ ids) where
  -- entry `id` of the list `numbers` is the number that the id has in the map `ids`
  pub handle_at : (id : ℕ) → get ids id ≡ get_or numbers id None
  handle_at id = ap (λ (m : Ids). get m id) (sym seen) ∙ get-numbered numbers id

  pub within : length numbers ≡ 65536 → AreWithin ids
  within long = record {
    below = λ id h is. (let lt = numbered_live numbers id (some_is_some _ h (ap (λ (m : Ids). get m id) seen ∙ is)) in omega arith);
    few = (
        let e : len ids ≡ len (numbered 0 numbers) = ap len (sym seen) in
        let c = len-numbered 0 numbers in
        let l = count_by-le-length is_some numbers in
        omega arith
        );
  }

  pub id_bound : (id h : ℕ) → id < length numbers → numbered 0 (set numbers id (Some h)) ≡ insert ids id h
  id_bound id h lt = numbered-set numbers id h lt ∙ ap (λ (m : Ids). insert m id h) seen

  pub id_freed : (id : ℕ) → id < length numbers → numbered 0 (set numbers id None) ≡ remove ids id
  id_freed id lt = numbered-clear numbers id lt ∙ ap (λ (m : Ids). remove m id) seen

module _ (numbers : List (Option ℕ)) (live : ℕ) (valid : IsValid numbers live) where
  pub few_live : live ≤ 65536
  few_live = let c = len-numbered 0 numbers in let l = count_by-le-length is_some numbers in omega (arith, valid.long, valid.counted)

  -- no id is live if and only if the count is 0
  pub none_counted : (ids : Ids) → numbered 0 numbers ≡ ids → IsTrue (nat_eq live 0) ↔ (ids ≡ empty)
  none_counted ids seen =
      let same : live ≡ len ids = valid.counted ∙ ap len seen in (
        (λ is. empty_of_len ids (grind (arith, is))),
        (λ is. (let e : len ids ≡ 0 = ap len is ∙ len-empty nat_cmp ℕ in let z : live ≡ 0 = same ∙ e in rw z refl)),
      )

  module _ (id : ℕ) (lt : id < length numbers) where
    -- if o is entry `id` of the list, it is what the map has for this id
    pub live_before : (o : Option ℕ) → o ≡ get_or numbers id None → get (numbered 0 numbers) id ≡ o
    live_before o is = get-numbered numbers id ∙ sym is

    pub bound_live : (h : ℕ) (o : Option ℕ) (fresh : Bool) → o ≡ get_or numbers id None → is_some o ≡ not fresh
        → IsValid (set numbers id (Some h)) (live + bool_byte fresh)
    bound_live h None false is known = absurd (false≢true known)
    bound_live h (Some w) true is known = absurd (false≢true (sym known))
    bound_live h None true is known = record {
      long = length-set numbers id (Some h) ∙ valid.long;
      counted = (
          let s = ap len (numbered-set numbers id h lt) in
          let l = len_fresh (numbered 0 numbers) id h (live_before None is) in
          omega (arith, valid.counted)
          );
    }
    bound_live h (Some w) false is known = record {
      long = length-set numbers id (Some h) ∙ valid.long;
      counted = (
          let s = ap len (numbered-set numbers id h lt) in
          let l = len_rebound (numbered 0 numbers) id h w (live_before (Some w) is) in
          omega (arith, valid.counted)
          );
    }

    pub some_to_free : (o : Option ℕ) → o ≡ get_or numbers id None → bool_byte (is_some o) ≤ live
    some_to_free None is = omega arith
    some_to_free (Some w) is = let l = some_live (numbered 0 numbers) id w (live_before (Some w) is) in omega (arith, valid.counted)

    pub freed_live : (o : Option ℕ) → o ≡ get_or numbers id None → IsValid (set numbers id None) (live - bool_byte (is_some o))
    freed_live None is = record {
      long = length-set numbers id None ∙ valid.long;
      counted = (
          let s = ap len (numbered-clear numbers id lt) in
          let l = len_kept (numbered 0 numbers) id (live_before None is) in
          omega (arith, valid.counted)
          );
    }
    freed_live (Some w) is = record {
      long = length-set numbers id None ∙ valid.long;
      counted = (
          let s = ap len (numbered-clear numbers id lt) in
          let l = len_gone (numbered 0 numbers) id w (live_before (Some w) is) in
          omega (arith, valid.counted)
          );
    }
