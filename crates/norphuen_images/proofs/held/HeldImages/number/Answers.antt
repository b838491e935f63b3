use Rattle.std.proofs.Common.{ap, subst, sym}
use Rattle.cf_base.specs.Settings.{profile_of}
use Rattle.norphuen_images.specs.Calls.{number_by}
use Rattle.norphuen_images.specs.State.{IsNamed}
use Rattle.norphuen_images.proofs.Naming.{none_above}
use Rattle.norphuen_images.proofs.held.HeldImages.number.Goals as goal

pub returns-then-id-ge-IDS : goal.returns-then-id-ge-IDS
returns-then-id-ge-IDS c =
    let p = profile_of c.self.inside.settings in
    sym (ap number_by (none_above p c.args.self.now (subst (IsNamed p) c.self.view_is c.self.invariant) c.args.id c.if-id-ge-IDS.true))
