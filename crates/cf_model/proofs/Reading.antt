-- For `what_is_written_is_read` and `what_is_freed_is_gone`: a read after a write returns the written bytes, a write changes no other object, and a freed
-- object isn't live.
use Rattle.std.proofs.Common.{◌≡◌, ◌≢◌, ℕ, ◌+◌, ◌≤◌, List, ◌++◌, Option, Some, None, length, take, drop, arith, sym, ◌∙◌, subst, ap, refl}
use Rattle.std.specs.Prelude.{option_map}
use Rattle.std.proofs.Math.Seq.{drop-append_seam, take-append_seam}
use Rattle.std.proofs.lemmas.Grind.{common_steps}
use Rattle.std.proofs.lemmas.Option.{same_Some as placed_equal}
use Rattle.std.specs.FinMap.{get}
use Rattle.cf_base.proofs.Maps.{get_inserted, get_insert_other, get_removed}
use Rattle.cf_base.proofs.MapValues.{get-map_values}
use Rattle.cf_base.specs.declared.results.Freed.{Freed}
use Rattle.page_model.specs.Held.{Placed, objects}
use Rattle.page_model.specs.Bytes.{written}
use Rattle.cf_model.specs.State.{HeapState}
use Rattle.cf_model.specs.Steps.{Position, WritesBytes, ReadsBytes, FreesObject}

none_mapped : (o : Option Placed) → option_map (λ (z : Placed). z.bytes) o ≡ None → o ≡ None
none_mapped None e = refl
none_mapped (Some x) e = cc

-- after a write into the bytes v from byte `at` on, the bytes there are the written ones
part_written : (v : List ℕ) (at : ℕ) (bytes : List ℕ) → at + length bytes ≤ length v → take (length bytes) (drop at (written v at bytes)) ≡ bytes
part_written v at bytes within =
    let rest = drop (at + length bytes) v in
    let len : length (take at v) ≡ at = length_front v at (omega arith) in
    let behind : drop at (take at v ++ (bytes ++ drop (at + length bytes) v)) ≡ bytes ++ drop (at + length bytes) v =
    subst (λ n. drop n (take at v ++ (bytes ++ drop (at + length bytes) v)) ≡ bytes ++ drop (at + length bytes) v) len
    (drop-append_seam (take at v) (bytes ++ drop (at + length bytes) v)) in
    ap (take (length bytes)) behind ∙ take-append_seam bytes (drop (at + length bytes) v)
  where
    length_front : (v : List ℕ) (n : ℕ) → n ≤ length v → length (take n v) ≡ n
    length_front v n le = grind (arith, common_steps)

-- a read after a write returns the written bytes
pub read_back : (old : HeapState) (position : Position) (bytes out : List ℕ) (new : HeapState) → WritesBytes old position bytes new → ReadsBytes new position (length bytes) out
    → out ≡ bytes
read_back old position bytes out new w r =
    let there : get new.held position.number ≡ Some (record w.object { bytes = written w.object.bytes position.from bytes }) =
    ap (λ (s : HeapState). get s.held position.number) w.whole ∙ get_inserted old.held position.number _ in
    let same = placed_equal r.object (record w.object { bytes = written w.object.bytes position.from bytes }) (sym r.found ∙ there) in
    r.value ∙ ap (λ (z : Placed). take (length bytes) (drop position.from z.bytes)) same ∙ part_written w.object.bytes position.from bytes w.within

-- a write changes no other object
pub others_kept : (old : HeapState) (position : Position) (bytes : List ℕ) (new : HeapState) → WritesBytes old position bytes new → (q : ℕ) → q ≢ position.number
    → get new.held q ≡ get old.held q
others_kept old position bytes new w q ne = ap (λ (s : HeapState). get s.held q) w.whole ∙ get_insert_other old.held position.number _ q ne

-- a freed object isn't live
pub freed_is_gone : (old : HeapState) (h : ℕ) (freed : Freed) (new : HeapState) → FreesObject old h freed new → get new.held h ≡ None
freed_is_gone old h freed new f = none_mapped (get new.held h)
    (sym (get-map_values (λ (z : Placed). z.bytes) new.held h) ∙ ap (λ m. get m h) f.left ∙ get_removed (objects old.held) h)
