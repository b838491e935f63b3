-- The list is split in two parts, n items of each are exchanged, and the parts make up the list again.
use Rattle.std.proofs.Common.{◌+◌, ◌-◌, ◌≤◌, ◌∙◌, min, max, arith, inl, inr}
use Rattle.cf_base.proofs.Swapping.{parted}
use Rattle.cf_base.proofs.SwappedRuns.{swapped_is}
use Rattle.step_ledger.proofs.cells.exchange_runs.Goals as goal

pub returns : goal.returns
returns c =
    let a = c.args.a in let b = c.args.b in let n = c.args.n in
    let low : min a b + n ≤ max a b = elim c.requires.apart [ inl l ↦ omega arith | inr l ↦ omega arith ] in
    rw (
      c.swap_with_slice.ensures.after,
      c.swap_with_slice.ensures.other_after,
      c.split_at_mut-low.ensures.front,
      c.split_at_mut-low.ensures.back,
      c.max.ensures,
      c.min-first.ensures,
    )
    (parted c.args.items.now (min a b) (max a b) n low (min a b + n - min a b) (omega arith)
    ∙ swapped_is c.args.items.now a b n c.requires.apart c.requires.a_in_range c.requires.b_in_range)
