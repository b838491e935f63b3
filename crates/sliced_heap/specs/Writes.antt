-- What a write does to the words of the region if word i of the object is at the address `place i`; word 0 is its header.
use Rattle.std.specs.Prelude.{◌≡◌, ◌≢◌, ℕ, ◌+◌, ◌-◌, ◌/◌, ◌%◌, ◌^◌, ◌<◌, ◌≤◌, List, length, slice_index}
use Rattle.page_model.specs.Bytes.{byte_of}
use Rattle.region.specs.Cells.{overwritten}

-- the address of word i of an object whose words lie side by side from `place` on
abbrev pub word_from : ℕ → ℕ → ℕ
word_from place i = place + i

-- word i of the object holds one of its `count` bytes from byte `at` on
pub record IsTouched (at count i : ℕ) : Type 0 where
  pub some : 0 < count
  pub first : 1 + at / 8 ≤ i
  pub last : i ≤ 1 + (at + count - 1) / 8

-- byte k of the object whose word i is at the address `place i`
abbrev pub byte_by : (ℕ → ℕ) → List ℕ → ℕ → ℕ
byte_by place words k = byte_of (k % 8) (slice_index words (place (1 + k / 8)))

-- From the words `old` to the words `new` the object's bytes from byte `at` on become these bytes; no other byte of the object changes, and no other word.
pub record WritesByPlaces (old new : List ℕ) (place : ℕ → ℕ) (at : ℕ) (bytes : List ℕ) : Type 0 where
  pub others : (w : ℕ) → ((i : ℕ) → IsTouched at (length bytes) i → place i ≢ w) → slice_index new w ≡ slice_index old w
  pub small : (i : ℕ) → IsTouched at (length bytes) i → slice_index new (place i) < 2 ^ 64
  pub value : (k : ℕ) → IsTouched at (length bytes) (1 + k / 8) → byte_by place new k ≡ overwritten (byte_by place old) at bytes k
