use Rattle.std.proofs.Common.{take}
use Rattle.cf_base.specs.Settings.{profile_of}
use Rattle.quota_model.specs.Admission.{in_order}
use Rattle.quota_model.specs.Refusals.{task_paging}
use Rattle.quota_model.specs.Layout.{AreTallied}
use Rattle.quota_model.proofs.enough.count_pages.Given as goal

abbrev pub invariant-needs : goal.invariant-needs
invariant-needs l = AreTallied (task_paging (profile_of l.s)) l.quota (in_order (take l.entry-index l.needs)) l.counts l.pages l.before
