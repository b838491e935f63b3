use Rattle.std.proofs.Common.{ap₂, ◌∙◌}
use Rattle.std.proofs.lemmas.Result.{IfOk-weaker}
use Rattle.clap.specs.Words.{with_rule}
use Rattle.top_call.proofs.command.cf_command.Goals as goal

pub returns : goal.returns
returns c = IfOk-weaker c.arg-5.result _ _ (λ app h. record {
  modes = c.modes.result;
  managers = c.managers.result;
  mode_texts = c.modes.ensures;
  manager_texts = c.managers.ensures;
  app_is = h.shape c.quantum_arg.ensures.local ∙ ap₂ with_rule (
      c.in_ok-arg-4.ensures.shape c.count_arg.ensures.local ∙ ap₂ with_rule (
      c.in_ok-arg-3.ensures.shape c.seed_arg.ensures.local ∙ ap₂ with_rule (
      c.in_ok-arg-2.ensures.shape c.manager_arg-manager.ensures.local ∙ ap₂ with_rule (
      c.in_ok-arg.ensures.shape c.mode_arg-mode.ensures.local ∙ ap₂ with_rule c.new.ensures.app c.mode_arg-mode.ensures.rule)
      c.manager_arg-manager.ensures.rule) c.seed_arg.ensures.rule) c.count_arg.ensures.rule) (c.quantum_arg.ensures.rule);
}) c.arg-5.ensures
