-- A page that isn't full has a free slot.
use Rattle.slot_bitmap.specs.Maps.{on_page}
use Rattle.page_slots.proofs.Calls.{finds_free}
use Rattle.page_slots.proofs.take.take_least.Goals as goal

pub unreachable-requires : goal.unreachable-requires
unreachable-requires c = finds_free (on_page c.args.maps.now c.args.page) c.requires.some c.in_default.ensures.found
