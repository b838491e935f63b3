-- For `Loan`: the words of an open heap lie apart, at an address that a caller in C may know, and besides there is what makes the heap whole again.
use base.Fraction.{full_share}
use base.Fml.{Fml, ftrue, feq, fsep, fex, fobor, fobs, fauth, flent}
use denote.Array.{Array}
use denote.Builtin.{u64}
use denote.Follow.{follows}
use denote.Lend.{Held}
use denote.Memory.{lone, mem}
use denote.RattleType.{RattleType}
use denote.RawPtr.{Ptr, block_ptr, lies_at}
use denote.Slice.{heres, coded_holeys}
use mir.Raw.{raw}
use types.SemTy.{Body}
use Rattle.std.specs.Prelude.{ℕ, List, [], ◌∷◌, Option, Some, None, length}
use Rattle.std.specs.contracts.prelude.GlobalAllocator.TheImpl.{ghosts}
use Rattle.c_base.specs.Lending.{IsLooseOf, Lending}

-- the names of an open borrow of all words of the region: its lifetime, the ghost names of the heap and of the words, the places of both, and the heap's fields, of type S, and the words when it was opened
pub record Names (S : Type 0) : Type 0 where
  pub life : ℕ
  pub heap_name : ℕ
  pub words_name : ℕ
  pub heap_at : ℕ × ℕ
  pub words_at : ℕ × ℕ
  pub parts : S
  pub lent : List ℕ

-- the right to free the block at p, which has a value of type S
abbrev pub may_free_value : RattleType → Ptr → Fml
may_free_value S p = ghosts.dealloc_token (record { memory = record { seal = tt } }) (raw (lone S.mir)) p

-- the open borrow, with these names, of the n words at w of the heap in the block at p. With any n words at w it is closed, and the heap's fields are back with these words
abbrev pub open_borrow : (S : RattleType) → (S.Denot → List ℕ → S.Denot) → Ptr → Ptr → ℕ → Names S.Denot → Fml
open_borrow S with_words p w n m =
    fsep (feq Ptr p (block_ptr m.heap_at.0 m.heap_at.1))
    (fsep (feq Ptr w (block_ptr m.words_at.0 m.words_at.1))
    (fsep (feq ℕ n (length m.lent))
    (fsep (fobor (m.life ∷ []) full_share (Held u64 (length m.lent) m.words_at.0 m.words_at.1 m.words_name))
    (fsep (fobs m.words_name ((coded_holeys u64).code (heres u64 m.lent)))
    (fsep (fauth m.words_name ((coded_holeys u64).code (heres u64 m.lent)))
    (fsep (flent (m.life ∷ []) (Body (mem S) m.heap_at.0 m.heap_at.1 m.heap_name))
    (fsep (follows S (Array u64 0) m.heap_name m.words_name (with_words m.parts))
    (may_free_value S p))))))))

-- the words ws lie at w
abbrev pub words_lie : Ptr → List ℕ → Fml
words_lie w ws = lies_at (Array u64 (length ws)) full_share w ws

-- what makes the heap x whole again, with its words at w: the open borrow, and that the fields with these words are those of this heap
abbrev pub opened : (S : RattleType) {T : Type 0} → Lending T S.Denot → Ptr → Ptr → T → Fml
opened S L p w x = fex ((m : Names S.Denot) × IsLooseOf L (L.with_words m.parts (L.words x)) x) (λ m. open_borrow S L.with_words p w (length (L.words x)) m.0)

-- what a `Loan` owns: nothing; or the words of the heap x in the block at p, which lie at w, and what makes it whole again
abbrev pub loan_owns : (S : RattleType) {T : Type 0} → Lending T S.Denot → Ptr → Ptr → Option T → Fml
loan_owns S L p w None = ftrue
loan_owns S L p w (Some x) = fsep (words_lie w (L.words x)) (opened S L p w x)
