-- The words of an object and of a region that objects determine (`IsImage`), how many words a slot has, when objects or ranges share no word, and three changes
-- of words: to rewrite, clear or move a range. Words and addresses are counted from the start of the region.
use Rattle.std.specs.Prelude.{◌≡◌, ◌≢◌, ℕ, zero, suc, ◌+◌, ◌*◌, ◌^◌, ◌≤◌, ◌<◌, ◌⊎◌, List, [], ◌∷◌, Some, length, take, drop, slice_index}
use Rattle.std.specs.FinMap.{get}
use Rattle.cf_base.specs.Classes.{need}
use Rattle.page_model.specs.Held.{Held, Placed}
use Rattle.page_model.specs.Paging.{Paging, slot_words, class_for}

-- the number that bytes represent, the least significant first
abbrev pub word_of_bytes : List ℕ → ℕ
word_of_bytes [] = 0
word_of_bytes (b ∷ bs) = b + 256 * word_of_bytes bs

-- the header of object h of n bytes: the number in the lower 32 bits, the length above
abbrev pub header_word : ℕ → ℕ → ℕ
header_word h n = h + 2 ^ 32 * n

-- word i of an object with the number h and the bytes v: its header, then its bytes, eight to a word, then zeros
abbrev pub object_word : ℕ → List ℕ → ℕ → ℕ
object_word h v zero = header_word h (length v)
object_word h v (suc i) = word_of_bytes (take 8 (drop (8 * i) v))

-- w is none of the n words from a on
abbrev pub IsOutside : ℕ → ℕ → ℕ → Type 0
IsOutside a n w = (w < a) ⊎ (a + n ≤ w)

-- the n words from a on and the m words from b on have none in common
abbrev pub IsDisjoint : ℕ → ℕ → ℕ → ℕ → Type 0
IsDisjoint a n b m = (a + n ≤ b) ⊎ (b + m ≤ a)

-- the words of the slot of an object of n bytes, as a count
abbrev pub slot_for : Paging → ℕ → ℕ
slot_for p n = slot_words p (class_for p n)

-- word w is none of the words of object x, if an object of n bytes has `extent n` words
abbrev pub IsOutsideOf : (ℕ → ℕ) → Placed → ℕ → Type 0
IsOutsideOf extent x w = IsOutside x.place (extent (length x.bytes)) w

-- the objects x and y have no word in common, if an object of n bytes has `extent n` words
abbrev pub AreDisjoint : (ℕ → ℕ) → Placed → Placed → Type 0
AreDisjoint extent x y = IsDisjoint x.place (extent (length x.bytes)) y.place (extent (length y.bytes))

-- each object's words are at its address, and every other word is 0; an object of n bytes has `extent n` words: `need n` for its header and bytes alone,
-- `slot_for n` for its whole slot
pub record IsImageOver (extent : ℕ → ℕ) (m : Held) (words : List ℕ) : Type 0 where
  pub held : (h : ℕ) (x : Placed) → get m h ≡ Some x → (i : ℕ) → i < extent (length x.bytes) → slice_index words (x.place + i) ≡ object_word h x.bytes i
  pub zeros : (w : ℕ) → ((h : ℕ) (x : Placed) → get m h ≡ Some x → IsOutsideOf extent x w) → slice_index words w ≡ 0

-- the words are those of the objects' headers and bytes, and zeros elsewhere
abbrev pub IsImage : Held → List ℕ → Type 0
IsImage m words = IsImageOver need m words

-- the words are those of the objects' whole slots, and zeros elsewhere
abbrev pub IsSlotImage : Paging → Held → List ℕ → Type 0
IsSlotImage p m words = IsImageOver (slot_for p) m words

-- no two objects share a word, if an object of n bytes has `extent n` words
pub record IsApart (extent : ℕ → ℕ) (m : Held) : Type 0 where
  pub pairs : (h : ℕ) (x : Placed) (q : ℕ) (y : Placed) → get m h ≡ Some x → get m q ≡ Some y → q ≢ h → AreDisjoint extent x y

-- object x shares no word with an object of m other than number h; an object of n bytes has `extent n` words
abbrev pub IsApartFrom : (ℕ → ℕ) → Held → ℕ → Placed → Type 0
IsApartFrom extent m h x = (q : ℕ) (y : Placed) → get m q ≡ Some y → q ≢ h → AreDisjoint extent x y

-- a range of words: `count` words from word `from` on
pub record WordRange : Type 0 where
  pub from : ℕ
  pub count : ℕ

-- the words `old` become `new`: those of the range `run` become f 0, f 1 and so on; every other word stays
pub record Rewrites (old new : List ℕ) (run : WordRange) (f : ℕ → ℕ) : Type 0 where
  pub within : (i : ℕ) → i < run.count → slice_index new (run.from + i) ≡ f i
  pub others : (w : ℕ) → IsOutside run.from run.count w → slice_index new w ≡ slice_index old w

-- the words `old` become `new`: those of the range `run` become zeros; every other word stays
abbrev pub Clears : List ℕ → List ℕ → WordRange → Type 0
Clears old new run = Rewrites old new run (λ _. 0)

-- the words `old` become `new`: those of the range `run` move to address b, and zeros are left in their old place; every other word stays
pub record MovesWords (old new : List ℕ) (run : WordRange) (b : ℕ) : Type 0 where
  pub arrived : (i : ℕ) → i < run.count → slice_index new (b + i) ≡ slice_index old (run.from + i)
  pub left_zeros : (i : ℕ) → i < run.count → slice_index new (run.from + i) ≡ 0
  pub others : (w : ℕ) → IsOutside run.from run.count w → IsOutside b run.count w → slice_index new w ≡ slice_index old w
