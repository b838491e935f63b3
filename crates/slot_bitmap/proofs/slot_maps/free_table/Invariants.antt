use Rattle.std.proofs.Common.{◌≡◌, replicate}
use Rattle.slot_bitmap.proofs.slot_maps.free_table.Given as goal

abbrev pub invariant-loop-page : goal.invariant-loop-page
invariant-loop-page l = l.summaries.items ≡ replicate l._page (record { with_free = 1; with_used = 0; slots = 1; used = 0 })
