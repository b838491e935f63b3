use Rattle.std.proofs.Common.{arith, ◌/◌, ◌<◌}
use Rattle.std.proofs.lemmas.List.{get_or_read}
use Rattle.slot_bitmap.specs.Layout.{word_in}
use Rattle.slot_bitmap.proofs.Slots.{slot_shown, length-slots_of}
use Rattle.slot_bitmap.proofs.slot_map.SlotMap.is_used.Goals as goal

pub returns-clause-value : goal.returns-clause-value
returns-clause-value c = rw (← c.self.view_is) (
    let within = rw (← c.self.view_is, length-slots_of) at c.requires in
    let few = c.self.invariant.page.few in
    let inside : c.args.i / 64 < 64 = omega arith in
    let read = get_or_read c.self.inside.words _ _ (omega (arith, c.self.invariant.count, inside)) c.get.ensures.value 0 in
    slot_shown (word_in c.self.inside.words) c.self.inside.summary.slots c.args.i c.has_bit.result within (rw read at c.has_bit.ensures))
