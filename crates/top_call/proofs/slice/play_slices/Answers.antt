use Rattle.std.proofs.Common.{refl, subst, sym}
use Rattle.slice_session.specs.Playing.{IsQuantum, slice_play, slices}
use Rattle.top_call.proofs.Outcomes.{made_ends}
use Rattle.top_call.specs.TopOutcome.{IsMadeSliced}
use Rattle.top_call.proofs.slice.play_slices.Goals as goal

pub play_script-requires : goal.play_script-requires
play_script-requires g c = record {
  ids = c.in-Ok.ensures.session;
  quantum = subst IsQuantum (sym c.in-Ok.ensures.quantum) (record { least = c.requires.least; most = c.requires.most });
}

pub returns : goal.returns
returns g c = λ managers.
    let by = c.play_script.ensures in
    made_ends slices (IsMadeSliced c.args.quantum) _ _ _ _ managers c.play_script.result
    by.causes
    (slice_play c.in-Ok.mode_handler.session c.in-Ok.mode_handler.quantum c.closed-heap.result)
    (slice_play c.play_script.new.mode_handler.session c.play_script.new.mode_handler.quantum c.play_script.new.heap)
    (rw (c.in-Ok.ensures.session, c.in-Ok.ensures.quantum, c.closed-heap.ensures) refl) by.outcome
