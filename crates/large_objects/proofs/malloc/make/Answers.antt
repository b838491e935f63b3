use Rattle.std.proofs.Common.{arith, inl, inr}
use Rattle.large_objects.proofs.GrowLemmas.{room_for_short}
use Rattle.large_objects.proofs.malloc.make.Goals as goal

pub make_inner-requires-clause-ready : goal.make_inner-requires-clause-ready
make_inner-requires-clause-ready g c = c.requires.room.ready

pub make_inner-requires-clause-room : goal.make_inner-requires-clause-room
make_inner-requires-clause-room g c =
    room_for_short c.args.part_bytes c.args.bytes (g.H.Manager.state c.args.inner.now) c.requires.some (omega arith) c.requires.room

pub returns-then-bytes-part_bytes-clause-step : goal.returns-then-bytes-part_bytes-clause-step
returns-then-bytes-part_bytes-clause-step g c = inl (
    let given = c.make_inner.ensures.step in
    record { short = omega arith; stays = given.stays; unused = given.unused; left = given.left })

pub returns-clause-step : goal.returns-clause-step
returns-clause-step g c = inr (record { long = omega arith; grown = c.make_long.ensures.step })
