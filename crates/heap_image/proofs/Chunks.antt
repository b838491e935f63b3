-- For `put_bytes`, which writes an object's bytes to a sink at most 4,096 at a time: each chunk read from the heap is a part of the object, and the chunks
-- written are a prefix of it.
use Rattle.std.proofs.Common.{◌≡◌, ◌∙◌, ◌++◌, ◌+◌, ◌≤◌, ℕ, List, Some, length, take, drop, ap, sym}
use Rattle.std.specs.Prelude.{Err, Ok}
use Rattle.std.specs.FinMap.{get}
use Rattle.std.proofs.lemmas.List.{take-append-drop, take_all}
use Rattle.cf_base.specs.declared.results.Failed.{Failed}
use Rattle.cf_io.specs.Feeds.{SinkState, Writes, WritesAll}
use Rattle.cf_io.proofs.CallerLemmas.{puts_cut, puts_same, puts_then, writes_more}
use Rattle.cf_model.specs.State.{HeapState}
use Rattle.cf_model.specs.Steps.{Position, ReadsBytes}
use Rattle.page_model.specs.Held.{Held, Placed}

split : (i : ℕ) (xs : List ℕ) → take i xs ++ drop i xs ≡ xs
split i xs = take-append-drop i xs

module _ (w x y : SinkState) (bytes chunk : List ℕ) (i n : ℕ) (first : WritesAll w (take i bytes) x) (is : chunk ≡ take n (drop i bytes)) where
  -- after one more chunk the first i + n bytes are written
  pub chunk_put : WritesAll x chunk y → WritesAll w (take (i + n) bytes) y
  chunk_put next = writes_more w x y bytes i n first (puts_same {T = Unit {0}} x y _ _ (Ok tt) is next)

  -- if a chunk is cut, a prefix of all bytes is written
  pub chunk_cut : (e : Failed) → Writes {T = Unit {0}} x chunk (Err e) y → Writes {T = Unit {0}} w bytes (Err e) y
  chunk_cut e put =
      let rest = puts_same {T = Unit {0}} x y _ _ (Err e) (split n (drop i bytes))
      (puts_cut x y (take n (drop i bytes)) (drop n (drop i bytes)) e (puts_same {T = Unit {0}} x y _ _ (Err e) is put)) in
      puts_same {T = Unit {0}} w y _ _ (Err e) (split i bytes) (puts_then {T = Unit {0}} w x y (take i bytes) (drop i bytes) (Err e) first rest)

-- after the last chunk all bytes are written
pub chunks_put : (w x : SinkState) (bytes : List ℕ) (i : ℕ) → WritesAll w (take i bytes) x → length bytes ≤ i → WritesAll w bytes x
chunks_put w x bytes i first all = puts_same {T = Unit {0}} w x _ _ (Ok tt) (take_all i bytes all) first

-- the object with the handle h has n bytes
pub object_length : (m : Held) (h n : ℕ) (x : Placed) → (y : Placed) × (get m h ≡ Some y) × (n ≡ length y.bytes) → get m h ≡ Some x → length x.bytes ≡ n
object_length m h n x live some =
    let e : Some live.0 ≡ Some x = sym live.1 ∙ some in
    let same : live.0 ≡ x = cc in
    sym (live.2 ∙ ap (λ (y : Placed). length y.bytes) same)

-- the bytes that a read of `count` bytes returns are those of the object
pub chunk_is : (s : HeapState) (position : Position) (count : ℕ) (out : List ℕ) (x : Placed) → get s.held position.number ≡ Some x → ReadsBytes s position count out
    → out ≡ take count (drop position.from x.bytes)
chunk_is s position count out x some reads =
    let e : Some reads.object ≡ Some x = sym reads.found ∙ some in
    let same : reads.object ≡ x = cc in
    reads.value ∙ ap (λ (y : Placed). take count (drop position.from y.bytes)) same
