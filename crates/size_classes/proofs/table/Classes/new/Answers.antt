use Rattle.cf_base.proofs.Rising.{are_sizes, page_size}
use Rattle.size_classes.proofs.PowerOfTwo.{page_power}
use Rattle.size_classes.proofs.table.Classes.new.Goals as goal

pub classes_by_need-requires : goal.classes_by_need-requires
classes_by_need-requires c = record {
  are_sizes = rw (c.deref.ensures.value, c.in-Ok.ensures) (are_sizes c.args.page_words c.args.layout c.requires);
  small = (page_size c.args.page_words c.requires).small;
}

pub invariant_of-result : goal.invariant_of-result
invariant_of-result c =
    let power = page_power c.args.page_words c.requires in
    record {
      table = record {
        are_sizes = rw c.in-Ok.ensures (are_sizes c.args.page_words c.args.layout c.requires);
        small = (page_size c.args.page_words c.requires).small;
      };
      needs = rw c.new.ensures (rw c.deref.ensures.value at c.in-Ok-classes_by_need.ensures);
      power = power.power;
      short = power.short;
    }
