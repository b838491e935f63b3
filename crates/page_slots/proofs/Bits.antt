-- A list with a truth value for each slot of a page (true for used): its entries after one of them changes, and whether any is true. For the proofs of what a
-- call that takes or frees a slot does to the objects at the used slots.
use Rattle.std.proofs.Common.{◌≡◌, ◌≢◌, ℕ, Bool, true, false, ◌<◌, List, length, get_or, set, replicate, Some, arith, sym, ◌∙◌, ap, inl, inr}
use Rattle.std.specs.Prelude.{slice_get}
use Rattle.std.proofs.lemmas.Bool.{cases_lt}
use Rattle.std.proofs.lemmas.List.{get_or-set_same, get_or-set_other, get_or-replicate, length-set, length-replicate}
use Rattle.std.proofs.lemmas.Option.{slice_get_within, slice_get_past, slice_get-get_or}
use Rattle.slot_bitmap.proofs.CallerLemmas.{count-unset}
use Rattle.page_slots.specs.Tables.{used_in}

pub set_here : (xs : List Bool) (i : ℕ) (b : Bool) → i < length xs → slice_get (set xs i b) i ≡ Some b
set_here xs i b lt =
    let e = length-set xs i b in
    slice_get-get_or (set xs i b) i b (omega arith) ∙ ap Some (get_or-set_same xs i b b lt)

pub set_there : (xs : List Bool) (i j : ℕ) (b : Bool) → j ≢ i → slice_get (set xs i b) j ≡ slice_get xs j
set_there xs i j b ne =
    let e = length-set xs i b in
    elim (cases_lt j (length xs)) [
      | inl lt ↦ slice_get-get_or (set xs i b) j b (omega arith) ∙ ap Some (get_or-set_other xs i j b b ne) ∙ sym (slice_get-get_or xs j b lt)
      | inr past ↦ slice_get_past (set xs i b) j (omega arith) ∙ sym (slice_get_past xs j past)
    ]

pub none_used : (n i : ℕ) → slice_get (replicate n false) i ≡ Some true → ⊥
none_used n i h =
    let lt = slice_get_within (replicate n false) i true h in
    let len = length-replicate n false in
    let at : slice_get (replicate n false) i ≡ Some (get_or (replicate n false) i false) = slice_get-get_or (replicate n false) i false lt in
    let is : get_or (replicate n false) i false ≡ false = get_or-replicate n i false false (omega arith) in
    let e : Some true ≡ Some false = sym h ∙ at ∙ ap Some is in
    cc

pub used_some : (xs : List Bool) (i : ℕ) → slice_get xs i ≡ Some true → 0 < used_in xs
used_some xs i h = (let e = count-unset xs i h in omega arith)

pub not_both : (o : Bool) → Some o ≡ Some true → Some o ≡ Some false → ⊥
not_both o a b = (let e : Some true ≡ Some false = sym a ∙ b in cc)
