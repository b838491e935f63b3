-- For `Send` of what C has for a heap: the memory that a `HeapBlock` and a `Loan` own belongs to no thread, so C may pass it to another thread.
use Rattle.std.proofs.Common.{ℕ, ◌+◌, List, [], ◌∷◌, length}
use base.Shift.{Keyless}
use denote.Array.{Array}
use denote.Builtin.{u64}
use denote.Memory.{mem}
use denote.Param.Send.{IsSend, array_send}
use denote.RattleType.{RattleType}
use denote.RawPtr.{Ptr, block_ptr}
use types.SemTy.{cells}
use Rattle.std.proofs.Crossing.{frees}
use Rattle.std.specs.Prelude.{Option, Some, None}
use Rattle.std_alloc.proofs.SendSync.{lies}
use Rattle.c_base.specs.HeapBlock.{place_owns}
use Rattle.c_base.specs.Lending.{Lending}
use Rattle.c_base.specs.Lent.{loan_owns}

-- if a value of type R may go to another thread, so may what a `HeapBlock` with the address p owns: a value h of this type, or nothing
pub place-Keyless : (R : RattleType) → IsSend R → (p : Ptr) (h : Option R.Denot) → Keyless (place_owns R p h)
place-Keyless R s p (Some x) = (lies R s p x, frees.frees _ _ p)
place-Keyless R s p None = tt

cells-Keyless : IsSend u64 → (xs : List ℕ) (b o : ℕ) → Keyless (cells (mem u64) xs b o)
cells-Keyless s [] b o = tt
cells-Keyless s (x ∷ xs) b o = (lies u64 s (block_ptr b o) x, cells-Keyless s xs b (o + 8))

-- if the fields of a heap may go to another thread, so may what a `Loan` of its words owns
pub loan-Keyless : (S : RattleType) {T : Type 0} (L : Lending T S.Denot) → IsSend u64 → IsSend S → (p w : Ptr) (h : Option T) → Keyless (loan_owns S L p w h)
loan-Keyless S L s l p w None = tt
loan-Keyless S L s l p w (Some x) = (
  lies (Array u64 (length (L.words x))) (array_send u64 (length (L.words x)) s) w (L.words x),
  (λ m. (
    tt,
    (
      tt,
      (
        tt,
        (
          (λ y. ((tt, cells-Keyless s y m.0.words_at.0 m.0.words_at.1), tt)),
          (
            tt,
            (
              tt,
              (
                (λ y. (lies S l (block_ptr m.0.heap_at.0 m.0.heap_at.1) y, tt)),
                (((λ v. (tt, tt)), (λ v. (tt, (λ u. (tt, tt))))), frees.frees _ _ p),
              ),
            ),
          ),
        ),
      ),
    ),
  )),
)
