use Rattle.std.proofs.Common.{refl, false, ◌∙◌}
use Rattle.std.proofs.lemmas.List.{length-set}
use Rattle.slot_bitmap.proofs.Slots.{map_here, map_others, slot_within, slot_word, valid_unset, written}
use Rattle.slot_bitmap.proofs.slot_map.SlotMap.unset.Goals as goal

pub invariant_of-self : goal.invariant_of-self
invariant_of-self c =
    let m = c.self.invariant in
    let was = rw (← c.self.view_is) at c.requires in
    let word = c.write_bit-word.ensures in
    let here = map_here _ _ c.write_bit-word.result m.count (slot_word _ _ _ m.page _ _ was) in
    rw word.cells (record {
      count = length-set _ _ _ ∙ m.count;
      page = valid_unset _ _ _ _ _ _ _ _ _ _ m.page refl refl here (map_others _ _ _) word.within c.write_bit.ensures.within c.write_bit-2.ensures.within
          was word.written c.write_bit.ensures.written c.write_bit-2.ensures.written;
    })

pub returns-clause-value : goal.returns-clause-value
returns-clause-value c =
    let m = c.self.invariant in
    let was = rw (← c.self.view_is) at c.requires in
    let word = c.write_bit-word.ensures in
    let here = map_here _ _ c.write_bit-word.result m.count (slot_word _ _ _ m.page _ _ was) in
    rw (word.cells, ← c.self.view_is) (written _ _ _ _ _ _ _ false (slot_within _ _ _ _ was) refl refl here (map_others _ _ _) word.written)
