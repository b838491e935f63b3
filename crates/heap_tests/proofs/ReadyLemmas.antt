-- Lemmas for `open` and `do_command` in `src/tests/images.rt`: a run is ready for `save` (`IsReady`) once its heap is opened, and after each command.
use Rattle.std.proofs.Common.{◌≡◌, ◌∙◌, ap}
use Rattle.cf_base.specs.Settings.{Profile, profile_of}
use Rattle.cf_base.specs.declared.kind.Kind.TheVariants.{Moving}
use Rattle.cf_base.specs.declared.settings.Settings.{Settings}
use Rattle.cf_model.specs.Rules.{KeepsRules}
use Rattle.cf_model.specs.State.{HeapState}
use Rattle.cf_model.specs.Steps.{IsEmptyHeap}
use Rattle.cf_session.specs.Apply.{run_at}
use Rattle.run_model.specs.Sessions.{RunState, SessionState, fresh_session}
use Rattle.run_model.specs.Steps.{Step}
use Rattle.run_model.specs.Texts.{Reply}
use Rattle.run_model.proofs.CallerLemmas.{begins_going, step_going, step_same}
use Rattle.script_reader.specs.declared.command.Command.{Command}
use Rattle.heap_tests.specs.Ready.{IsReady}

pub opened_ready : (s : SessionState) (old new : HeapState) (settings : Settings) → old.kind ≡ Moving → s ≡ fresh_session
    → IsEmptyHeap old.kind settings new → KeepsRules new → IsReady (profile_of settings) (run_at s new)
opened_ready s old new settings moving fresh empty rules = record {
  going = begins_going old.kind (profile_of settings) (run_at s new)
      (record { session = fresh; words = empty.words; order = empty.order; heap = empty.whole; rules = rules });
  kind = ap (λ (h : HeapState). h.kind) empty.whole ∙ moving;
  profile = ap (λ (h : HeapState). h.profile) empty.whole;
}

pub given_ready : (old new : RunState) (c : Command) (reply : Reply) → Step old c reply new → (p : Profile) → IsReady p old → IsReady p new
given_ready old new c reply step p ready = (let same = step_same old new c reply ready.going.rules step in record {
  going = step_going old new c reply ready.going step;
  kind = same.kind ∙ ready.kind;
  profile = same.profile ∙ ready.profile;
})
