-- Lists of bytes (`AreBytes`), bytes in the words of a region, bytes after some were overwritten, the objects that words and addresses determine, and which
-- objects words can represent.
use Rattle.std.specs.Prelude.{ℕ, ◌≡◌, Some, zero, suc, ◌+◌, ◌/◌, ◌%◌, ◌^◌, ◌<◌, List, ◌++◌, map, take, drop, length, slice_index}
use Rattle.std.specs.List.{range_with_len}
use Rattle.std.specs.Ordering.{nat_cmp}
use Rattle.std.specs.FinMap.{FinMap, get}
use Rattle.cf_base.specs.Maps.{map_values}
use Rattle.page_model.specs.Held.{Held, Placed}

-- byte j of the word w, the least significant byte first
abbrev pub byte_of : ℕ → ℕ → ℕ
byte_of zero w = w % 256
byte_of (suc j) w = byte_of j (w / 256)

-- the bytes of the object whose header is word a of the list: their number is the upper half of the header, and they are in the words after it
unfoldable pub bytes_at : List ℕ → ℕ → List ℕ
bytes_at words a = map (λ i. byte_of (i % 8) (slice_index words (a + 1 + i / 8))) (range_with_len 0 (slice_index words a / 2 ^ 32))

-- the objects of a region: `places` has the address of each by its number, and the words at that address hold its bytes
abbrev pub held_at : List ℕ → FinMap nat_cmp ℕ → Held
held_at words places = map_values (λ a. record { place = a; bytes = bytes_at words a }) places

-- no number in the list v is above 255
abbrev pub AreBytes : List ℕ → Type 0
AreBytes v = (i : ℕ) → slice_index v i < 256

-- the bytes v after `bytes` were written over them from position `at` on
abbrev pub written : List ℕ → ℕ → List ℕ → List ℕ
written v at bytes = take at v ++ (bytes ++ drop (at + length bytes) v)

-- words can represent the objects of m: their numbers fit 32 bits, and their contents are bytes
abbrev pub AreStorable : Held → Type 0
AreStorable m = (h : ℕ) (x : Placed) → get m h ≡ Some x → (h < 2 ^ 32) × AreBytes x.bytes
