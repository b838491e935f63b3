-- For `LendableHeap::held`: a struct with a heap, whose flags are proved to be `true` (open) and `false` (lent), equals the struct with these flags.
use mathlib.Core.Bool.{Bool-set}
use mathlib.Core.HLevel.{is_prop→PathP}
use base.Stored.{Coded-set}
use denote.RawPtr.{coded_ptr}
use Rattle.std.proofs.Common.{◌≡◌, ℕ, Bool, true, false, refl}
use Rattle.c_base.specs.Borrow.{with_heap}
use Rattle.c_base.specs.declared.block.HeapBlock.{HeapBlock}
use Rattle.c_base.specs.declared.lendable.LendableHeap.{LendableHeap}
use Rattle.c_base.specs.declared.loan.Loan.{Loan}

pub again : {T S : Type 0} (p : HeapBlock T) (l : Loan T S) (last : ℕ) (h : T) (o n : Bool) (s : o ≡ true) (t : n ≡ false) (u : l.block ≡ l.block)
    → ◌≡◌ {A = LendableHeap T S} (record { place = with_heap p h; loan = l; last = last; is_open = o; is_lent = n; shown = s; lent_shown = t; same = u })
    (record { place = with_heap p h; loan = l; last = last; is_open = true; is_lent = false; shown = refl; lent_shown = refl; same = refl })
again p l last h o n s t u = λ i. record {
  place = with_heap p h;
  loan = l;
  last = last;
  is_open = s i;
  is_lent = t i;
  shown = is_prop→PathP (λ j. s j ≡ true) (λ j. Bool-set (s j) true) s refl i;
  lent_shown = is_prop→PathP (λ j. t j ≡ false) (λ j. Bool-set (t j) false) t refl i;
  same = Coded-set coded_ptr l.block l.block u refl i;
}
