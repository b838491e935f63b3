use Rattle.std.proofs.Common.{◌≤◌, ◌∙◌, ◌+◌, ◌++◌, [], arith, ap, drop, length, length-drop}
use Rattle.std.proofs.lemmas.List.{length-take-le, take_rest}
use Rattle.cf_io.proofs.CallerLemmas.{appended_after, writes_none}
use Rattle.script_loop.proofs.AnswersSoFar.{answered_fed, answered_next, answered_none, stops_over}
use Rattle.script_loop.proofs.answering.answer_chunk.Goals as goal

pub feeds-init : goal.feeds-init
feeds-init g c = record {
  text = [];
  answered = answered_none g.A.ModeHandler.semantics _;
  ready = c.requires.ready;
  waiting = c.requires.waiting;
  same_end = c.requires.open;
  fed = omega arith;
  within = omega arith;
  wrote = writes_none _;
}

pub feeds-preserved : goal.feeds-preserved
feeds-preserved g c =
    let so_far = c.feeds.invariant in
    let took = rw (take_rest c.args.chunk.now c.feeds.at) at c.feed-at.ensures in
    let kept = c.in-Ok.ensures.goes in
    let some : c.feed-at.result ≤ length (drop c.feeds.at c.args.chunk.now) = omega (arith, took.value) in
    let long = length-take-le c.feed-at.result (drop c.feeds.at c.args.chunk.now) some in
    let count = ap (λ r. r.fed) took.fed in
    record {
      text = so_far.text ++ kept.text;
      answered = answered_next g.A.ModeHandler.semantics
          (answered_fed g.A.ModeHandler.semantics _ c.args.chunk.now c.feeds.at c.feed-at.result so_far.answered so_far.same_end took.fed) kept.answered;
      ready = kept.ready;
      waiting = kept.waiting;
      same_end = kept.same_end ∙ ap (λ r. r.ended) took.fed ∙ so_far.same_end;
      fed = omega (arith, kept.fed, count, long, so_far.fed);
      within = omega (arith, some, length-drop c.feeds.at c.args.chunk.now);
      wrote = record { wrote = appended_after _ _ _ _ _ so_far.wrote.wrote kept.wrote; same = c.in-Ok.ensures.sink ∙ so_far.wrote.same };
    }

pub returns-in-Err-clause-goes : goal.returns-in-Err-clause-goes
returns-in-Err-clause-goes g c =
    let so_far = c.feeds.invariant in
    let took = rw (take_rest c.args.chunk.now c.feeds.at) at c.feed-at.ensures in
    stops_over g.A.ModeHandler.semantics _ c.args.chunk.now (c.feeds.at + c.feed-at.result) _ _ _ so_far.text c.in-Err.status _
    (answered_fed g.A.ModeHandler.semantics _ c.args.chunk.now c.feeds.at c.feed-at.result so_far.answered so_far.same_end took.fed) so_far.wrote.wrote
    c.in-Err.ensures.goes
