use Rattle.std.proofs.Common.{rules}
use Rattle.quota_session.proofs.RunInvariant.{free_found}
use Rattle.quota_session.proofs.changes.free.Goals as goal

pub unreachable-requires : goal.unreachable-requires
unreachable-requires c = free_found c.args.heap.now c.args.task c.args.ids.now c.args.id c.in-Some.h.0 c.requires.tied c.in-Some.ensures.found (search rules)
