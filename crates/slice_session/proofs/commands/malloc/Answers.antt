use Rattle.std.proofs.Common.{refl, sym, ◌∙◌, Ok}
use Rattle.slice_session.specs.SliceRun.{slice_run}
use Rattle.slice_session.proofs.RunInvariant.{malloc_step, no_handle}
use Rattle.slice_session.proofs.commands.malloc.Goals as goal

pub returns-in-Ok-clause-step : goal.returns-in-Ok-clause-step
returns-in-Ok-clause-step c =
    malloc_step (slice_run c.args.ids.now c.args.heap.now) (slice_run c.bind.new.self c.malloc.new.self) c.args.id c.args.bytes _
    (no_handle c.handle.result _ c.handle.ensures.found (sym c.is_some.ensures ∙ c.if-is_some.false))
    (record {
      answer = Ok c.in-Ok.h;
      step = record { happens = c.in-Ok.ensures.step; ordered = c.in-Ok.ensures.ordered; stays = c.malloc.ensures.same };
      ids = c.bind.ensures;
      reply_is = refl;
    })
