use Rattle.std.proofs.Common.{arith, replicate, ℕ}
use Rattle.std.proofs.lemmas.List.{length-replicate, get_or-replicate}
use Rattle.slot_bitmap.specs.Layout.{word_in}
use Rattle.slot_bitmap.proofs.Slots.{all_free, valid_new}
use Rattle.slot_bitmap.proofs.slot_map.SlotMap.new.Goals as goal

pub invariant_of-result : goal.invariant_of-result
invariant_of-result c = rw (c.new.ensures, c.new-2.ensures, c.new-3.ensures) (record {
  count = length-replicate {A = ℕ} 64 0;
  page = valid_new 64 (word_in (replicate 64 0)) c.args.slots (omega (arith, c.requires.few)) (λ j lt. get_or-replicate 64 j 0 0 lt) c.ones.result (omega arith)
      (rw c.div_ceil.ensures at c.ones.ensures);
})

pub returns : goal.returns
returns c = rw c.new.ensures (all_free 64 (word_in (replicate 64 0)) c.args.slots (omega (arith, c.requires.few)) (λ j lt. get_or-replicate 64 j 0 0 lt))
