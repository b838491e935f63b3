use Rattle.std.proofs.Common.{◌≡◌, Some, None, arith, sym, ◌∙◌}
use Rattle.cf_base.specs.Settings.{profile_of}
use Rattle.page_model.specs.Paging.{class_for}
use Rattle.quota_model.specs.Refusals.{task_paging}
use Rattle.quota_model.proofs.Classes.{class_is, class_within, few_classes}
use Rattle.quota_model.proofs.sizes.class_at.Goals as goal

pub returns-in-Some : goal.returns-in-Some
returns-in-Some c =
    let e : Some c.in-Some.class ≡ Some (class_for (task_paging (profile_of c.args.s.now)) c.args.bytes) = sym c.in-Some.is ∙ c.class_in.ensures
    ∙ class_is (profile_of c.args.s.now) c.args.s.now.page_size c.args.slot_sizes.now c.requires.sized c.args.bytes c.requires.fits in
    let is : c.in-Some.class ≡ class_for (task_paging (profile_of c.args.s.now)) c.args.bytes = cc in
    record {
      class = is;
      within = (
          let w = class_within (profile_of c.args.s.now) c.args.s.now.page_size c.args.slot_sizes.now c.requires.sized c.args.bytes c.requires.fits in
          omega arith);
      few = few_classes (profile_of c.args.s.now) c.args.s.now.page_size c.args.slot_sizes.now c.requires.sized;
    }

pub returns-in-None : goal.returns-in-None
returns-in-None c = absurd (
    let e : None ≡ Some (class_for (task_paging (profile_of c.args.s.now)) c.args.bytes) = sym c.in-None.is ∙ c.class_in.ensures
    ∙ class_is (profile_of c.args.s.now) c.args.s.now.page_size c.args.slot_sizes.now c.requires.sized c.args.bytes c.requires.fits in
    cc)
