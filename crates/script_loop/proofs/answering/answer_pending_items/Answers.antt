use Rattle.std.proofs.Common.{◌∙◌, ◌++◌, [], refl}
use Rattle.run_model.specs.Texts.{led}
use Rattle.cf_io.proofs.CallerLemmas.{appended_after, writes_none}
use Rattle.script_loop.proofs.AnswersSoFar.{answered_command, answered_none, answered_open, answered_then, bad_at, cut_command, cut_open, cut_then, named}
use Rattle.script_loop.proofs.AnswersSoFar.{ready_command, ready_open}
use Rattle.script_loop.proofs.answering.answer_pending_items.Goals as goal

pub replies-init : goal.replies-init
replies-init g c = record {
  text = [];
  answered = answered_none g.A.ModeHandler.semantics _;
  ready = c.requires.ready;
  going = c.requires.going;
  same_end = refl;
  fed = refl;
  wrote = writes_none _;
}

pub replies-preserved-in-Ok : goal.replies-preserved-in-Ok
replies-preserved-in-Ok g c =
    let m = g.A.ModeHandler.semantics in
    let so_far = c.replies.invariant in
    let next = rw c.in-Start.is at c.read_next.ensures in
    let opened = c.in-Ok.ensures.opens in
    record {
      text = so_far.text ++ led [] opened.reply;
      answered = answered_then m so_far.answered (answered_open m _ _ c.in-Start.settings _ _ next opened c.in-Ok.ensures.plan);
      ready = ready_open m _ _ next.bounding c.in-Ok.ensures.going;
      going = next.still;
      same_end = next.reads.same_end ∙ so_far.same_end;
      fed = next.reads.same_fed ∙ so_far.fed;
      wrote = record { wrote = appended_after _ _ _ _ _ so_far.wrote.wrote opened.written; same = c.in-Ok.ensures.sink ∙ so_far.wrote.same };
    }

pub returns-in-Err-Failed-clause-goes : goal.returns-in-Err-Failed-clause-goes
returns-in-Err-Failed-clause-goes g c =
    let m = g.A.ModeHandler.semantics in
    let so_far = c.replies.invariant in
    let next = rw c.in-Start.is at c.read_next.ensures in
    let opened = rw c.in-Err-Failed.field-0-is at c.in-Err-Failed.ensures.opens in
    record {
      out = so_far.text ++ opened.front;
      cut = cut_then m so_far.answered (cut_open m _ _ c.in-Start.settings _ _ next opened c.in-Err-Failed.ensures.plan);
      wrote = appended_after _ _ _ _ _ so_far.wrote.wrote opened.written;
    }

pub replies-preserved : goal.replies-preserved
replies-preserved g c =
    let m = g.A.ModeHandler.semantics in
    let so_far = c.replies.invariant in
    let next = rw c.in-Command.is at c.read_next.ensures in
    let answer = c.in-Ok-answer.ensures.step in
    record {
      text = so_far.text ++ led [] answer.reply;
      answered = answered_then m so_far.answered (answered_command m _ _ _ answer.reply next answer.turns c.in-Ok-answer.ensures.plan);
      ready = ready_command m _ _ _ _ next c.in-Ok-answer.ensures.going;
      going = next.still;
      same_end = next.reads.same_end ∙ so_far.same_end;
      fed = next.reads.same_fed ∙ so_far.fed;
      wrote = record { wrote = appended_after _ _ _ _ _ so_far.wrote.wrote answer.written; same = c.in-Ok-answer.ensures.sink ∙ so_far.wrote.same };
    }

pub returns-in-Err-clause-goes : goal.returns-in-Err-clause-goes
returns-in-Err-clause-goes g c =
    let m = g.A.ModeHandler.semantics in
    let so_far = c.replies.invariant in
    let next = rw c.in-Command.is at c.read_next.ensures in
    let answer = c.in-Err.ensures.step in
    record {
      out = so_far.text ++ answer.out;
      cut = cut_then m so_far.answered (cut_command m _ _ _ answer.out next answer.turns c.in-Err.ensures.plan);
      wrote = appended_after _ _ _ _ _ so_far.wrote.wrote answer.written;
    }

pub returns-in-Bad-clause-goes : goal.returns-in-Bad-clause-goes
returns-in-Bad-clause-goes g c =
    let so_far = c.replies.invariant in
    named g.A.ModeHandler.semantics _ _ _ _ _ _ _ so_far.text _ so_far.answered so_far.wrote.wrote
    (bad_at _ _ _ so_far.going (rw c.in-Bad.is at c.read_next.ensures)) c.put_bad_line.ensures.names
