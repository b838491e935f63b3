-- For `store`, which makes an object and writes bytes into it, and `first_object`, which opens a heap for that: the write is not refused, the object then has
-- the bytes, with zeros behind them, and the new heap has this object alone.
use Rattle.std.proofs.Common.{◌≡◌, ℕ, ◌+◌, ◌-◌, ◌≤◌, List, [], ◌∷◌, ◌++◌, Some, length, take, drop, replicate, arith, sym, ◌∙◌, ap, refl}
use Rattle.std.specs.Prelude.{Result, Ok, Err, None, IfOk, OnOk}
use Rattle.std.specs.Result.{result_ok}
use Rattle.std.proofs.lemmas.List.{drop-replicate, length-replicate}
use Rattle.std.proofs.lemmas.Option.{same_Some}
use Rattle.std.specs.FinMap.{empty, get, insert}
use Rattle.cf_base.specs.declared.results.AccessFault.{AccessFault}
use Rattle.cf_base.specs.declared.results.AccessFault.TheVariants as access
use Rattle.cf_base.specs.declared.results.Handle.{Handle}
use Rattle.cf_base.specs.declared.results.OutOfMemory.{OutOfMemory}
use Rattle.cf_base.specs.declared.results.Refusal.{Refusal}
use Rattle.cf_base.specs.declared.kind.Kind.{Kind}
use Rattle.cf_base.specs.declared.settings.Settings.{Settings}
use Rattle.cf_base.proofs.Maps.{get_inserted, insert_twice}
use Rattle.cf_base.proofs.MapValues.{map_values-insert}
use Rattle.cf_base.proofs.Values.{map_values-empty}
use Rattle.page_model.specs.Held.{Placed, objects}
use Rattle.page_model.specs.Bytes.{written}
use Rattle.page_model.specs.Steps.{Request, zeros_at}
use Rattle.cf_model.specs.State.{HeapState}
use Rattle.cf_model.specs.Steps.{AddsObject, IsEmptyHeap, IsWriteStep, StaysOpen, WritesBytes}
use Rattle.cf_model.proofs.CallerLemmas.{not_none_found}
use Rattle.library_example.specs.Stored.{HoldsOne, padded_to_176, start_of}

take_none : (v : List ℕ) → take 0 v ≡ []
take_none [] = refl
take_none (x ∷ v) = refl

-- n zeros over whose start `bytes` are written: the bytes, then the zeros that are left
over_zeros : (bytes : List ℕ) (n : ℕ) → written (replicate n 0) 0 bytes ≡ bytes ++ replicate (n - length bytes) 0
over_zeros bytes n =
    let start : 0 + length bytes ≡ length bytes = omega arith in
    ap (λ t. t ++ (bytes ++ drop (0 + length bytes) (replicate n 0))) (take_none (replicate n 0))
    ∙ ap (λ k. bytes ++ drop k (replicate n 0)) start ∙ ap (λ rest. bytes ++ rest) (drop-replicate (length bytes) n 0)

module _ (old made after : HeapState) (asked : Request) (bytes : List ℕ) (given : AddsObject old asked made) (fits : length bytes ≤ asked.length) where
  abbrev object : Placed
  object = zeros_at given.place asked.length

  there : get made.held asked.number ≡ Some object
  there = ap (λ (s : HeapState). get s.held asked.number) given.whole ∙ get_inserted old.held asked.number _

  wrote : (r : Result Unit AccessFault) → IsWriteStep made (start_of asked.number) bytes r after → WritesBytes made (start_of asked.number) bytes after
  wrote (Ok u) step = step
  wrote (Err access.Unknown) (none, same) = elim (not_none_found made.held asked.number object there none) [ ]
  wrote (Err access.Range) (fault, same) =
      let whole = same_Some fault.object object (sym fault.found ∙ there) in
      let long : length fault.object.bytes ≡ asked.length = ap (λ (x : Placed). length x.bytes) whole ∙ length-replicate asked.length 0 in
      let past = fault.past in let no : ⊥ = omega arith in elim no [ ]

  -- after the write the object has the bytes, and zeros behind them
  has : (r : Result Unit AccessFault) → IsWriteStep made (start_of asked.number) bytes r after
      → objects after.held ≡ insert (objects old.held) asked.number (bytes ++ replicate (asked.length - length bytes) 0)
  has r step =
      let w = wrote r step in
      let whole : w.object ≡ object = same_Some w.object object (sym w.found ∙ there) in
      let first = ap (λ (s : HeapState). objects s.held) given.whole ∙ map_values-insert (λ (x : Placed). x.bytes) old.held asked.number _ in
      let then = ap (λ (s : HeapState). objects s.held) w.whole ∙ map_values-insert (λ (x : Placed). x.bytes) made.held asked.number _ in
      then ∙ ap (λ m. insert m asked.number (written w.object.bytes 0 bytes)) first ∙ insert_twice (objects old.held) asked.number _ _
      ∙ ap (λ (x : Placed). insert (objects old.held) asked.number (written x.bytes 0 bytes)) whole
      ∙ ap (insert (objects old.held) asked.number) (over_zeros bytes asked.length)

-- after a malloc of 176 bytes and a write of `bytes` from byte 0 on, the object h has `padded_to_176 bytes`
pub is_stored : (old made after : HeapState) (h : ℕ) (bytes : List ℕ) (w : Result Unit AccessFault)
    → AddsObject old (record { number = h; length = 176 }) made → length bytes ≤ 176
    → IsWriteStep made (start_of h) bytes w after → objects after.held ≡ insert (objects old.held) h (padded_to_176 bytes)
is_stored old made after h bytes w given fits step = has old made after (record { number = h; length = 176 }) bytes given fits w step

-- a heap that was opened empty, and in which one object was stored, has this object alone
pub one_is_there : (o : Result Unit OutOfMemory) (r : Result Handle Refusal) (u : Unit) (given : Handle) (kind : Kind) (s : Settings)
    (opened stored : HeapState) (bytes : List ℕ) → Some u ≡ result_ok o → Some given ≡ result_ok r → OnOk o (IsEmptyHeap kind s opened)
    → StaysOpen opened stored → IfOk r (λ h. objects stored.held ≡ insert (objects opened.held) h.0 (padded_to_176 bytes)) → HoldsOne stored given.0 bytes
one_is_there (Ok v) (Ok h) u given kind s opened stored bytes opens gives first same made =
    let is : given ≡ h = same_Some given h gives in
    let none : objects opened.held ≡ empty = ap (λ (s : HeapState). objects s.held) first.whole ∙ map_values-empty _ in
    record {
      open_now = same.open_now;
      one = made ∙ ap (λ m. insert m h.0 (padded_to_176 bytes)) none ∙ ap (λ (q : Handle). insert empty q.0 (padded_to_176 bytes)) (sym is);
    }
one_is_there (Err e) r u given kind s opened stored bytes opens gives first same made = (let no : Some u ≡ None = opens in cc)
one_is_there (Ok v) (Err e) u given kind s opened stored bytes opens gives first same made = (let no : Some given ≡ None = gives in cc)
