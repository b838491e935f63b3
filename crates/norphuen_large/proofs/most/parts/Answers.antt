use Rattle.std.proofs.Common.{arith, sym, ◌∙◌}
use Rattle.large_objects.proofs.Cutting.{parts_are}
use Rattle.norphuen_large.specs.Most.{part_of}
use Rattle.norphuen_large.proofs.most.parts.Goals as goal

pub returns : goal.returns
returns c = (let least = c.requires.least in c.div_ceil.ensures ∙ sym (parts_are (part_of c.args.words) c.args.bytes (omega arith)))
