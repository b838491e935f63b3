-- The mode handler `WithSettings` around another one: it does with each item what the inner handler does, so a run by it is a run by the inner handler; and the
-- settings that it keeps are those of the manager.
use Rattle.std.proofs.Common.{◌∙◌, ℕ, List, [], ◌∷◌, Option, Some, None, Result, Ok, Err, refl, sym, ap, subst, option_map}
use Rattle.run_model.specs.Terms.{asks, bad, Command, Failed, HeapState, Item, profile_of, Reply, RunState, starts}
use Rattle.cf_base.specs.declared.settings.Settings.{Settings}
use Rattle.run_model.proofs.CallerLemmas.{begins_going, step_going, step_same}
use Rattle.script_loop.specs.OneManager.{one_manager}
use Rattle.script_loop.specs.ScriptOutcome.{Effects, EndsAt, Wrote}
use Rattle.script_loop.specs.Semantics.{AnswersBy, OpensBy, RunBy, Semantics, StepBy, snapshot}
use Rattle.script_loop.specs.WithSettings.{GoesWith, Settled, settled, with_settings}
use Rattle.script_loop.specs.declared.mode_handler.OpenFault.{OpenFault}
use Rattle.script_loop.specs.declared.mode_handler.OpenFault.TheVariants as fault

-- what an inner handler did with one item, it does in `WithSettings` too, where the `heap` line sets the settings
module _ {S P T : Type 0} (m : Semantics S P) (old new : S) (before : Option Settings) (w w' : Option (List ℕ)) where
  pub opens_settled : (settings : Settings) (r : Result T OpenFault) → OpensBy m (snapshot old w) settings r (snapshot new w')
      → OpensBy (with_settings m) (snapshot (settled old before) w) settings r (snapshot (settled new (Some settings)) w')
  opens_settled settings (Ok u) o = record { reply = o.reply; begins = (o.begins, refl); written = o.written }
  opens_settled settings (Err fault.Failed) o =
      record { reply = o.reply; front = o.front; lost = o.lost; begins = (o.begins, refl); cut = o.cut; written = o.written }
  opens_settled settings (Err fault.OutOfMemory) o = o

  pub answers_settled : (c : Command) (r : Result T Failed) → AnswersBy m (snapshot old w) c r (snapshot new w')
      → AnswersBy (with_settings m) (snapshot (settled old before) w) c r (snapshot (settled new before) w')
  answers_settled c (Ok u) a = record { reply = a.reply; turns = (a.turns, refl); written = a.written }
  answers_settled c (Err e) a = record { out = a.out; turns = (a.turns, refl); written = a.written }

abbrev seen : Option (Settled RunState) → Option RunState
seen = option_map (λ (s : Settled RunState). s.state)

module _ (from : Settled RunState) where
  step_settled : (old : Option (Settled RunState)) (item : Item) (reply : Reply) (new : Option (Settled RunState)) → GoesWith old
      → StepBy (with_settings one_manager) from old item reply new
      → StepBy one_manager from.state (seen old) item reply (seen new) × GoesWith new
  step_settled old (starts p) reply new on (s, (begins, kept), is) = (
    (s.state, begins, ap seen is),
    subst GoesWith (sym is) (begins_going from.state.heap.kind p s.state begins.0, kept ∙ ap Some (sym (ap (λ (h : HeapState). h.profile) begins.0.heap))),
  )
  step_settled None (asks c) reply new on (none, is) = ((none, ap seen is), subst GoesWith (sym is) tt)
  step_settled (Some old) (asks c) reply new on (s, (turn, kept), is) = (
    (s.state, turn, ap seen is),
    subst GoesWith (sym is) (
      step_going old.state s.state c reply on.0 turn.step,
      ap (option_map profile_of) kept ∙ on.1 ∙ ap Some (sym (step_same old.state s.state c reply (on.0).rules turn.step).profile),
    ),
  )
  step_settled old (bad n) reply new on (named, is) = ((named, ap seen is), subst GoesWith (sym is) on)

  run_settled : (old : Option (Settled RunState)) (items : List Item) (replies : List Reply) (new : Option (Settled RunState)) → GoesWith old
      → RunBy (with_settings one_manager) from old items replies new
      → RunBy one_manager from.state (seen old) items replies (seen new) × GoesWith new
  run_settled old [] replies new on (none, is) = ((none, ap seen is), subst GoesWith (sym is) on)
  run_settled old (item ∷ items) replies new on (mid, reply, more, step, are, run) =
      let first = step_settled old item reply mid on step in
      let rest = run_settled mid items more new first.1 run in
      ((seen mid, reply, more, first.0, are, rest.0), rest.1)

  stands_seen : (end : Option (Settled RunState)) (to : Settled RunState) → EndsAt from end to → EndsAt from.state (seen end) to.state
  stands_seen None to is = ap (λ (s : Settled RunState). s.state) is
  stands_seen (Some s) to is = ap (λ (s : Settled RunState). s.state) is

  pub wrote_settled : (to : Settled RunState) (wanted : List Item) (call : Effects) (w : Wrote (with_settings one_manager) from wanted call to)
      → Wrote one_manager from.state wanted call to.state × GoesWith w.end
  wrote_settled to wanted call w =
      let run = run_settled None wanted w.replies w.end tt w.run in
      (record { replies = w.replies; end = seen w.end; run = run.0; written = w.written; stands = stands_seen w.end to w.stands }, run.1)
