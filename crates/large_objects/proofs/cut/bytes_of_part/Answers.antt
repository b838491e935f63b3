use Rattle.std.proofs.Common.{arith}
use Rattle.large_objects.proofs.Cutting.{part_inside}
use Rattle.large_objects.proofs.cut.bytes_of_part.Goals as goal

pub overflow_mul-part_bytes : goal.overflow_mul-part_bytes
overflow_mul-part_bytes c = (let h = part_inside c.args.part_bytes c.args.bytes c.requires.some c.args.i c.requires.below in omega arith)

pub overflow_sub-bytes : goal.overflow_sub-bytes
overflow_sub-bytes c = (let h = part_inside c.args.part_bytes c.args.bytes c.requires.some c.args.i c.requires.below in omega arith)
