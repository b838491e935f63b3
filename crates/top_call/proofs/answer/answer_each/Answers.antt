use Rattle.std.proofs.Common.{◌∙◌, ◌++◌, [], refl, sym, ap, arith, length-set, is_some}
use Rattle.cf_io.proofs.CallerLemmas.{appended_after, led-append, writes_none}
use Rattle.run_model.specs.Terms.{appended, led, owned_command}
use Rattle.top_call.proofs.Passing.{same_seen, seat_goes, seats_cut, seats_go, seats_more, seats_whole, swept_none}
use Rattle.top_call.proofs.answer.answer_each.Goals as goal

pub loop-i-init : goal.loop-i-init
loop-i-init g c = record {
  reply = [];
  swept = swept_none _ (owned_command c.args.command);
  sessions = refl;
  managers = refl;
  going = c.requires.going;
  kinds = refl;
  promise = refl;
  wrote = writes_none _;
}

pub answer_one-requires-clause-going : goal.answer_one-requires-clause-going
answer_one-requires-clause-going g c =
    seat_goes (λ m. g.H.Manager.state m) [] c.loop-i.sessions.items c.loop-i.managers.items c.loop-i.i (owned_command c.args.command) []
    _ c.index_mut.result.now _ c.index_mut-in-loop-i.result.now
    (c.loop-i.invariant.sessions ∙ c.requires.count ∙ sym c.loop-i.invariant.managers)
    (omega arith) c.index_mut.ensures.value c.index_mut-in-loop-i.ensures.value c.loop-i.invariant.going

pub returns-in-Err-clause-step : goal.returns-in-Err-clause-step
returns-in-Err-clause-step g c =
    let so_far = c.loop-i.invariant in
    let answer = c.in-Err.ensures.step in (
      led [] so_far.reply ++ answer.0,
      seats_cut (λ m. g.H.Manager.state m) _ c.loop-i.sessions.items c.loop-i.managers.items c.loop-i.i (owned_command c.args.command) so_far.reply
          c.index_mut.result.now c.answer_one.new.session c.index_mut-in-loop-i.result.now c.answer_one.new.manager
          (so_far.sessions ∙ c.requires.count ∙ sym so_far.managers)
          (omega arith) c.index_mut.ensures.value c.index_mut-in-loop-i.ensures.value so_far.swept answer.0 answer.1,
      appended_after _ _ _ (led [] so_far.reply) answer.0 so_far.wrote.wrote answer.2,
    )

pub returns-in-Err-clause-going : goal.returns-in-Err-clause-going
returns-in-Err-clause-going g c =
    let so_far = c.loop-i.invariant in
    seats_go (λ m. g.H.Manager.state m) [] c.loop-i.sessions.items c.loop-i.managers.items c.loop-i.i (owned_command c.args.command) [] c.index_mut.result.now
    c.answer_one.new.session c.index_mut-in-loop-i.result.now c.answer_one.new.manager
    (so_far.sessions ∙ c.requires.count ∙ sym so_far.managers)
    (omega arith) c.index_mut.ensures.value c.index_mut-in-loop-i.ensures.value so_far.going c.in-Err.ensures.going

pub returns-in-Err-clause-kinds : goal.returns-in-Err-clause-kinds
returns-in-Err-clause-kinds g c =
    same_seen (λ m. (g.H.Manager.state m).kind) c.loop-i.managers.items c.loop-i.i c.index_mut-in-loop-i.result.now c.answer_one.new.manager
    (omega arith) c.index_mut-in-loop-i.ensures.value c.in-Err.ensures.kind ∙ c.loop-i.invariant.kinds

pub returns-in-Err-clause-promise : goal.returns-in-Err-clause-promise
returns-in-Err-clause-promise g c =
    same_seen (λ m. is_some (g.H.Manager.state m).order) c.loop-i.managers.items c.loop-i.i c.index_mut-in-loop-i.result.now c.answer_one.new.manager
    (omega arith) c.index_mut-in-loop-i.ensures.value c.in-Err.ensures.promise ∙ c.loop-i.invariant.promise

pub loop-i-preserved : goal.loop-i-preserved
loop-i-preserved g c =
    let so_far = c.loop-i.invariant in
    let answer = c.in-Ok.ensures.step in
    record {
      reply = so_far.reply ++ answer.0;
      swept = seats_more (λ m. g.H.Manager.state m) _ c.loop-i.sessions.items c.loop-i.managers.items c.loop-i.i (owned_command c.args.command) so_far.reply
          c.index_mut.result.now c.answer_one.new.session c.index_mut-in-loop-i.result.now c.answer_one.new.manager
          (so_far.sessions ∙ c.requires.count ∙ sym so_far.managers)
          (omega arith) c.index_mut.ensures.value c.index_mut-in-loop-i.ensures.value so_far.swept answer.0 answer.1;
      sessions = length-set c.loop-i.sessions.items c.loop-i.i c.answer_one.new.session ∙ so_far.sessions;
      managers = length-set c.loop-i.managers.items c.loop-i.i c.answer_one.new.manager ∙ so_far.managers;
      going = seats_go (λ m. g.H.Manager.state m) [] c.loop-i.sessions.items c.loop-i.managers.items c.loop-i.i (owned_command c.args.command) []
          c.index_mut.result.now c.answer_one.new.session c.index_mut-in-loop-i.result.now c.answer_one.new.manager
          (so_far.sessions ∙ c.requires.count ∙ sym so_far.managers)
          (omega arith) c.index_mut.ensures.value c.index_mut-in-loop-i.ensures.value so_far.going c.in-Ok.ensures.going;
      kinds = same_seen (λ m. (g.H.Manager.state m).kind) c.loop-i.managers.items c.loop-i.i c.index_mut-in-loop-i.result.now c.answer_one.new.manager
          (omega arith) c.index_mut-in-loop-i.ensures.value c.in-Ok.ensures.kind ∙ so_far.kinds;
      promise = same_seen (λ m. is_some (g.H.Manager.state m).order) c.loop-i.managers.items c.loop-i.i c.index_mut-in-loop-i.result.now
          c.answer_one.new.manager (omega arith) c.index_mut-in-loop-i.ensures.value c.in-Ok.ensures.promise ∙ so_far.promise;
      wrote = record {
        wrote = appended_after _ _ _ (led [] so_far.reply) (led [] answer.0) so_far.wrote.wrote answer.2
            ∙ ap (λ t. appended (g.K.Sink.state c.args.sink.now).written t) (sym (led-append [] so_far.reply answer.0));
        same = c.in-Ok.ensures.sink ∙ so_far.wrote.same;
      };
    }

pub returns-clause-step : goal.returns-clause-step
returns-clause-step g c =
    let so_far = c.loop-i.invariant in (
      so_far.reply,
      seats_whole (λ m. g.H.Manager.state m) _ c.loop-i.sessions.items c.loop-i.managers.items c.loop-i.i (owned_command c.args.command) so_far.reply
          (so_far.sessions ∙ c.requires.count ∙ sym so_far.managers) (omega arith) so_far.swept,
      so_far.wrote.wrote,
    )
