use Rattle.std.proofs.Common.{◌≡◌, refl, rules, sym, ◌∙◌, ap, subst, inl, inr}
use Rattle.std.specs.Prelude.{is_some}
use Rattle.std.proofs.lemmas.Bool.{false≢true}
use Rattle.c_base.proofs.CallerLemmas.{at_some}
use Rattle.cf_base.specs.Settings.{profile_of}
use Rattle.norphuen_tasks.specs.Calls.{IsLeastQuota}
use Rattle.norphuen_tasks.specs.TasksState.{TasksState}
use Rattle.norphuen_tasks.proofs.Admissions.{large_at, least_at, many_at, none_at, not_some}
use Rattle.norphuen_tasks.proofs.held.HeldTasks.least_quota.Goals as goal
use Rattle.norphuen_tasks.proofs.held.HeldTasks.least_quota.Goals.{in-Some, in-None}

pub returns-then-is_some : goal.returns-then-is_some
returns-then-is_some c =
    let q = profile_of c.settings-s.result in let s = c.args.self.now.heap in
    let e : q ≡ s.profile = c.settings-s.ensures ∙ ap (λ (t : TasksState). t.heap.profile) c.self.view_is in
    (inr (inr (inl (search rules, large_at q s e c.args.needs.now (ap is_some (sym c.first_large.ensures) ∙ sym c.is_some.ensures ∙ c.if-is_some.true), refl)), refl), refl)

pub returns : goal.returns
returns c =
    let q = profile_of c.settings-s.result in let s = c.args.self.now.heap in
    let e : q ≡ s.profile = c.settings-s.ensures ∙ ap (λ (t : TasksState). t.heap.profile) c.self.view_is in
    let none = sym c.first_large.ensures ∙ not_some c.first_large.result c.is_some.result c.is_some.ensures c.if-is_some.false in (
      elim c.match-least_pages.branch [
        | in-Some w ↦ inl (
          w.result-is,
          subst (IsLeastQuota s c.args.needs.now) (sym w.pages-is)
              (least_at q s e c.args.needs.now (search rules) w.in-Some.found (at_some c.least_pages.result _ (c.least_pages.ensures.quota refl) w.in-Some.found w.in-Some.is)),
        )
        | in-None w ↦ inr (
          inr (inr (
            search rules,
            none_at q s e c.args.needs.now none,
            many_at q s e c.args.needs.now none
                (λ asked. false≢true (sym (ap is_some w.in-None.is) ∙ c.least_pages.ensures.some.1 asked)),
            w.result-is,
          )),
          w.pages-is,
        )
      ],
      refl,
    )
