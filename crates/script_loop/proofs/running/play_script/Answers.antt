use Rattle.std.proofs.Common.{◌∙◌, Ok, Err, refl}
use Rattle.cf_base.specs.declared.status.Status.TheVariants.{Done}
use Rattle.cf_io.proofs.CallerLemmas.{fails_after}
use Rattle.script_loop.specs.ScriptOutcome.{is_read_fault, is_write_fault}
use Rattle.script_loop.proofs.LoopTurn.{at_end, has_stopped, never_read, next_so_far, none_so_far, plays_of}
use Rattle.script_loop.proofs.running.play_script.Goals as goal

pub turns-init : goal.turns-init
turns-init g c = record {
  so_far = none_so_far g.A.ModeHandler.semantics c.new-script.result _ _ _ _ c.new-script.ensures.reading c.new-script.ensures.left c.requires;
  source_same = refl;
  sink_same = refl;
}

pub turns-preserved : goal.turns-preserved
turns-preserved g c =
    let turn = c.in-Ok-true.ensures in
    let went = rw c.in-Ok-true.field-0-test at turn.turn in
    record {
      so_far = next_so_far g.A.ModeHandler.semantics c.turns.invariant.so_far went;
      source_same = turn.source ∙ c.turns.invariant.source_same;
      sink_same = turn.sink ∙ c.turns.invariant.sink_same;
    }

pub returns-in-Err : goal.returns-in-Err
returns-in-Err g c =
    let turn = c.in-Err.ensures in
    let at = c.turns.invariant in
    let st = c.in-Err.status in
    plays_of g.A.ModeHandler.semantics _ _ _ st _ _ _ (has_stopped g.A.ModeHandler.semantics at.so_far _ st turn.turn)
    (fails_after (is_read_fault st) _ _ _ _ at.source_same turn.source) (fails_after (is_write_fault st) _ _ _ _ at.sink_same turn.sink)

pub returns-in-Ok : goal.returns-in-Ok
returns-in-Ok g c =
    let m = g.A.ModeHandler.semantics in
    let turn = c.in-Ok-false.ensures in
    let none = rw c.in-Ok-false.field-0-test at turn.turn in
    let at = c.turns.invariant in
    plays_of m _ _ _ Done _ _ _ (at_end m at.so_far _ none _ (Ok tt) (rw c.finish.ensures at c.in-Ok.ensures.goes))
    (turn.source ∙ at.source_same) (c.in-Ok.ensures.sink ∙ turn.sink ∙ at.sink_same)

pub returns-in-Err-answer_pending_items : goal.returns-in-Err-answer_pending_items
returns-in-Err-answer_pending_items g c =
    let m = g.A.ModeHandler.semantics in
    let turn = c.in-Ok-false.ensures in
    let none = rw c.in-Ok-false.field-0-test at turn.turn in
    let at = c.turns.invariant in
    let last = c.in-Err-answer_pending_items in
    plays_of m _ _ _ last.status _ _ _ (at_end m at.so_far _ none _ (Err last.status) (rw c.finish.ensures at last.ensures.goes))
    (rw (never_read m _ _ _ last.status last.ensures.goes) (turn.source ∙ at.source_same)) (fails_after (is_write_fault last.status) _ _ _ _ (turn.sink ∙ at.sink_same) last.ensures.sink)
