-- A heap whose words can be lent, and the fields that it has in memory, without its invariant; and that words have 64 bits (`AreWords`).
use Rattle.std.specs.Prelude.{◌≡◌, ℕ, ◌^◌, ◌<◌, List, Option, Some, None, get_or, length}

-- for the type T of an open heap and the type S of its fields: the `words` of a heap; the fields with other words in place of the heap's (`with_words`); whether fields are those of a heap (`fits`), and the `state` of that
-- heap; and the largest handle that a number of a heap has (`last`)
pub record Lending (T S : Type 0) : Type 1 where
  pub words : T → List ℕ
  pub with_words : S → List ℕ → S
  pub fits : S → Type 0
  pub state : S → T
  pub last : T → ℕ

-- a are the fields of the heap x
pub record IsLooseOf {T S : Type 0} (L : Lending T S) (a : S) (x : T) : Type 0 where
  pub fit : L.fits a
  pub shown : L.state a ≡ x

-- the first block has the fields of the heap in the second; false if one of them is empty
abbrev pub AreOf : {T S : Type 0} → Lending T S → Option S → Option T → Type 0
AreOf L None h = ⊥
AreOf L (Some a) None = ⊥
AreOf L (Some a) (Some x) = IsLooseOf L a x

-- the block has the fields of a heap
abbrev pub IsFit : {T S : Type 0} → Lending T S → Option S → Type 0
IsFit L None = ⊥
IsFit L (Some a) = L.fits a

-- each of the words fits in 64 bits
abbrev pub AreWords : List ℕ → Type 0
AreWords ws = (i d : ℕ) → i < length ws → get_or ws i d < 2 ^ 64
