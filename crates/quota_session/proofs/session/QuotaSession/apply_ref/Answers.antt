use Rattle.std.proofs.Common.{Some, ◌∙◌}
use Rattle.run_model.specs.Terms.{owned_command, profile_of}
use Rattle.quota_session.specs.Layout.{tasks_session}
use Rattle.quota_session.specs.QuotaRun.{quota_run}
use Rattle.quota_session.proofs.RunInvariant.{applied_going, going_before}
use Rattle.quota_session.proofs.session.QuotaSession.apply_ref.Goals as goal

pub invariant_of-self : goal.invariant_of-self
invariant_of-self g c = (
    let old = quota_run (Some (profile_of c.args.s.now)) (tasks_session c.self.inside.records) c.args.heap.now in
    let new = quota_run (Some (profile_of c.args.s.now)) (tasks_session c.answer.new.records) c.answer.new.heap in
    let going = going_before (profile_of c.args.s.now) (tasks_session c.self.inside.records) c.args.self.now c.args.heap.now c.requires.opened
    (c.is_open-open.ensures.rules (c.is_open-open.ensures.value ∙ c.requires.opened)) c.requires.settings c.self.view_is c.self.invariant c.requires.tied in
    (applied_going old going new (owned_command c.args.c) _ _ c.answer.result c.requires.formed c.answer.ensures.step).sixteen)

pub returns-clause-going : goal.returns-clause-going
returns-clause-going g c = (
    let old = quota_run (Some (profile_of c.args.s.now)) (tasks_session c.self.inside.records) c.args.heap.now in
    let new = quota_run (Some (profile_of c.args.s.now)) (tasks_session c.answer.new.records) c.answer.new.heap in
    let going = going_before (profile_of c.args.s.now) (tasks_session c.self.inside.records) c.args.self.now c.args.heap.now c.requires.opened
    (c.is_open-open.ensures.rules (c.is_open-open.ensures.value ∙ c.requires.opened)) c.requires.settings c.self.view_is c.self.invariant c.requires.tied in
    applied_going old going new (owned_command c.args.c) _ _ c.answer.result c.requires.formed c.answer.ensures.step)
