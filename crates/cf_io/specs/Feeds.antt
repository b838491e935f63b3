-- What contracts say of the bytes, calls and faults of any source or sink. Its bytes are `None` if it isn't observable.
use Rattle.std.specs.Prelude.{◌≡◌, ◌<◌, ◌≤◌, ◌+◌, ◌⊎◌, ◌++◌, ⊤, ℕ, Bool, true, false, List, [], length, take, min, Option, Some, None, option_map, IfSome, Result, Ok, Err}
use Rattle.cf_base.specs.declared.results.Failed.{Failed}

-- the last value of a counter of 64 bits
abbrev pub last_count : ℕ
last_count = 18446744073709551615

-- n + 1, saturated at the last value of a u64
abbrev pub one_more : ℕ → ℕ
one_more n = min (n + 1) last_count

-- what contracts see of a sink: the bytes written so far (`None` if they are not observable), how many of its calls failed, and whether its last call failed
pub record SinkState : Type 0 where
  pub written : Option (List ℕ)
  pub faults : ℕ
  pub last_failed : Bool

-- What contracts see of a source: the bytes left to read (`None` if they are not observable), how many bytes its calls have returned, how many calls there were
-- and how many of them failed, and whether the last call failed. The three counts saturate at the last value of a u64.
pub record SourceState : Type 0 where
  pub rest : Option (List ℕ)
  pub given : ℕ
  pub calls : ℕ
  pub faults : ℕ
  pub last_failed : Bool

-- the count of faults rose from `old` to `new` by one, or is saturated, and the last call failed
abbrev pub FailsLast : ℕ → ℕ → Bool → Type 0
FailsLast old new last = (new ≡ one_more old) × (last ≡ true) × (old ≤ new)

-- If the device failed, its count of faults rose from `old` to `new` by one, or is saturated, and its last call failed; else the count is unchanged.
abbrev pub FailsIf : Bool → ℕ → ℕ → Bool → Type 0
FailsIf true old new last = FailsLast old new last
FailsIf false old new last = new ≡ old

-- in a call that took the sink from `old` to `new`, the sink failed if and only if `failed`
abbrev pub SinkFailsIf : Bool → SinkState → SinkState → Type 0
SinkFailsIf failed old new = FailsIf failed old.faults new.faults new.last_failed

-- in a call that took the source from `old` to `new`, the source failed if and only if `failed`
abbrev pub SourceFailsIf : Bool → SourceState → SourceState → Type 0
SourceFailsIf failed old new = FailsIf failed old.faults new.faults new.last_failed

-- `bytes`, and then the bytes left; `None` if the bytes left are not observable
abbrev pub preceded : List ℕ → Option (List ℕ) → Option (List ℕ)
preceded bytes = option_map (λ rest. bytes ++ rest)

-- the bytes written, and then `bytes`; `None` if the bytes written are not observable
abbrev pub appended : Option (List ℕ) → List ℕ → Option (List ℕ)
appended written bytes = option_map (λ all. all ++ bytes) written

-- no byte is left to read, if the bytes left (`rest`) are observable
abbrev pub IsSpent : Option (List ℕ) → Type 0
IsSpent rest = IfSome rest (λ bytes. bytes ≡ [])

-- all of `bytes` were written to the sink, which did not fail
pub record WritesAll (old : SinkState) (bytes : List ℕ) (new : SinkState) : Type 0 where
  pub wrote : new.written ≡ appended old.written bytes
  pub same : new.faults ≡ old.faults

-- only `front`, a prefix of `bytes`, was written, and `lost` was not; `old` and `new` are the bytes written before and after, if they are observable
abbrev pub WritesPrefix : Option (List ℕ) → List ℕ → Option (List ℕ) → Type 0
WritesPrefix old bytes new = (front : List ℕ) × (lost : List ℕ) × (bytes ≡ front ++ lost) × (new ≡ appended old front)

-- the sink failed, and only a prefix of `bytes` was written
pub record WritesPart (old : SinkState) (bytes : List ℕ) (new : SinkState) : Type 0 where
  pub part : WritesPrefix old.written bytes new.written
  pub fails : FailsLast old.faults new.faults new.last_failed

-- writing `bytes` turned the sink from `old` to `new`, by the result: all of them were written; or the sink failed, and a prefix of them was written
abbrev pub Writes : {T : Type 0} → SinkState → List ℕ → Result T Failed → SinkState → Type 0
Writes old bytes (Ok u) new = WritesAll old bytes new
Writes old bytes (Err e) new = WritesPart old bytes new

-- One call of `put` turned the sink from `old` to `new`, by the result: the first n of `bytes` were written, at least one if there are any; or the call failed,
-- and none were.
abbrev pub PutsSome : SinkState → List ℕ → Result ℕ Failed → SinkState → Type 0
PutsSome old bytes (Ok n) new =
    WritesAll old (take n bytes) new × (n ≤ length bytes) × (0 < length bytes → 0 < n) × (new.last_failed ≡ false)
PutsSome old bytes (Err e) new = (new.written ≡ old.written) × FailsLast old.faults new.faults new.last_failed

-- One call of `take` turned the source from `old` to `new` and left `buf` in the buffer, by the result: it read n bytes into the start of `buf`, none only at the
-- end of the input or if the buffer is empty; or it failed, and read none.
abbrev pub Takes : SourceState → Result ℕ Failed → List ℕ → SourceState → Type 0
Takes old (Ok n) buf new = (old.rest ≡ preceded (take n buf) new.rest) × (new.given ≡ min (old.given + n) last_count) × (n ≤ length buf)
    × (0 < length buf → n ≡ 0 → IsSpent old.rest) × (new.calls ≡ one_more old.calls) × (new.faults ≡ old.faults) × (new.last_failed ≡ false)
Takes old (Err e) buf new = (new.rest ≡ old.rest) × (new.given ≡ old.given) × (new.calls ≡ one_more old.calls)
    × FailsLast old.faults new.faults new.last_failed

-- the count of returned bytes rose from `old` to `new` by n, or is saturated
abbrev pub HasGiven : ℕ → ℕ → ℕ → Type 0
HasGiven old n new = (new ≡ old + n) ⊎ (last_count ≤ new)

-- `more` are bytes that the source may still have: exactly `left`, if it is observable; else no bytes if it has ended, and any bytes if it has not
abbrev pub MayFollow : Option (List ℕ) → Bool → List ℕ → Type 0
MayFollow (Some left) ended more = more ≡ left
MayFollow None true more = more ≡ []
MayFollow None false more = ⊤
