use Rattle.std.proofs.Common.{arith}
use Rattle.large_objects.proofs.Cutting.{length_long, length_short}
use Rattle.large_objects.proofs.cut.count_inner_objects.Goals as goal

pub returns-then-bytes-part_bytes : goal.returns-then-bytes-part_bytes
returns-then-bytes-part_bytes c = (let h = length_short c.args.part_bytes c.args.bytes c.requires (omega arith) in omega arith)

pub returns-else-bytes-part_bytes : goal.returns-else-bytes-part_bytes
returns-else-bytes-part_bytes c = (let h = length_long c.args.part_bytes c.args.bytes c.requires (omega arith) in omega arith)
