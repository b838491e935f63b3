-- For `payload`, `payload_mut` and `lend` of the moving manager: the whole words of an object, the most steps of lending them, and the state after other
-- words were written over them. A word has eight bytes, the least significant first. Bytes after the last whole word are not lent.
use Rattle.std.specs.Prelude.{ℕ, ◌+◌, ◌*◌, ◌/◌, ◌%◌, List, Option, Some, None, length, map, take, drop, slice_index, option_map, Bool, if◌then◌else◌}
use Rattle.std.specs.List.{range_with_len}
use Rattle.std.specs.FinMap.{get, insert}
use Rattle.page_model.specs.Bytes.{byte_of, written}
use Rattle.page_model.specs.Held.{Placed}
use Rattle.page_model.specs.Image.{word_of_bytes}
use Rattle.region.specs.Lending.{fit, with_words}
use Rattle.cf_model.specs.State.{HeapState}
use Rattle.paged_heap.specs.PagedState.{PagedState}

-- the whole words of the bytes v
abbrev pub whole_words : List ℕ → List ℕ
whole_words v = map (λ i. word_of_bytes (take 8 (drop (8 * i) v))) (range_with_len 0 (length v / 8))

-- the whole words of object q; none if it is not live
abbrev pub payload_of : HeapState → ℕ → Option (List ℕ)
payload_of s q = option_map (λ (x : Placed). whole_words x.bytes) (get s.held q)

-- what `lend` returns, a flag and words, as an option: none if the flag is false, which means that the handle is not live
abbrev pub words_lent : Bool → List ℕ → Option (List ℕ)
words_lent live words = if live then Some words else None

-- the most steps of a borrow that lends these words, or none because the handle is not live
abbrev pub payload_bound : Option (List ℕ) → ℕ
payload_bound None = 2
payload_bound (Some words) = 2 + length words

-- the bytes of the words ws, eight to a word
abbrev pub bytes_of_words : List ℕ → List ℕ
bytes_of_words ws = map (λ i. byte_of (i % 8) (slice_index ws (i / 8))) (range_with_len 0 (8 * length ws))

-- the bytes v of an object after the words ws were written over its whole words; the bytes after those stay
abbrev pub with_payload : List ℕ → List ℕ → List ℕ
with_payload v ws = written v 0 (bytes_of_words (fit (length v / 8) ws))

-- the state after the words ws were written over the whole words of the object x, of number q: its bytes change, and alike the words that objects see and
-- those of the region
abbrev pub with_object : PagedState → ℕ → Placed → List ℕ → PagedState
with_object s q x ws =
    record {
      state = record s.state {
        held = insert s.state.held q (record x { bytes = with_payload x.bytes ws });
        words = with_words s.state.words (x.place + 1) (length x.bytes / 8) ws;
      };
      physical = with_words s.physical (x.place + 1) (length x.bytes / 8) ws;
    }

-- the state after a borrow in which the words ws were written over the whole words of object q; unchanged if q is not live
abbrev pub lent_back : PagedState → ℕ → List ℕ → PagedState
lent_back s q ws = lent (get s.state.held q)
  where
    lent : Option Placed → PagedState
    lent None = s
    lent (Some x) = with_object s q x ws
