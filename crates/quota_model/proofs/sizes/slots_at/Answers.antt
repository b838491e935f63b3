use Rattle.cf_base.specs.Settings.{profile_of}
use Rattle.quota_model.proofs.Classes.{size_some, slots_are, slots_few, slots_some}
use Rattle.quota_model.proofs.sizes.slots_at.Goals as goal

pub nonzero_div-result : goal.nonzero_div-result
nonzero_div-result c = size_some (profile_of c.args.s.now) c.args.s.now.page_size c.args.slot_sizes.now c.requires.sized c.args.class c.requires.within

pub returns : goal.returns
returns c = record {
  slots = slots_are (profile_of c.args.s.now) c.args.s.now.page_size c.args.slot_sizes.now c.requires.sized c.args.class;
  some = slots_some (profile_of c.args.s.now) c.args.s.now.page_size c.args.slot_sizes.now c.requires.sized c.args.class c.requires.within;
  few = slots_few (profile_of c.args.s.now) c.args.s.now.page_size c.args.slot_sizes.now c.requires.sized c.args.class c.requires.within;
}
