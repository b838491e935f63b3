use Rattle.std.proofs.Common.{rules, arith}
use Rattle.std.proofs.lemmas.Grind.{common_steps}
use Rattle.cf_base.specs.Settings.{profile_of}
use Rattle.quota_model.specs.Admission.{CanBeAsked}
use Rattle.quota_model.proofs.Counted.{within_is_enough}
use Rattle.quota_model.proofs.enough.admit.Goals as goal

pub returns-in-Ok : goal.returns-in-Ok
returns-in-Ok c =
    let asked : CanBeAsked (profile_of c.args.s.now) c.args.needs.now = record {
      none_large = first_of (search rules, grind (arith, common_steps));
      few = first_of (search rules, grind (arith, common_steps));
    } in (
      asked,
      within_is_enough (record { profile = profile_of c.args.s.now; quota = c.args.quota }) c.args.needs.now asked _ c.in-Ok.ensures.pages
          c.in-Ok.ensures.within,
    )
