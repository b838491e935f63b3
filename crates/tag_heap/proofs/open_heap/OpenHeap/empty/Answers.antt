use Rattle.tag_heap.proofs.ByKind.{lists_of_kind}
use Rattle.tag_heap.proofs.EmptyHeap.{first_of_kind, fresh_empty, fresh_rules, fresh_valid}
use Rattle.tag_heap.proofs.open_heap.OpenHeap.empty.Goals as goal

pub invariant_of-result : goal.invariant_of-result
invariant_of-result g c =
    fresh_valid c.args.s.now c.args.blocks c.args.proxies c.requires.blocks c.requires.words c.requires.tags g.B.FitPolicy.kind g.met.B.FitPolicy.tiled
    (first_of_kind g.B.FitPolicy.kind _ _ _ _ g.met.B.FitPolicy.lists g.met.B.FitPolicy.count c.requires.lists)
    (lists_of_kind g.B.FitPolicy.kind _ _ _ g.met.B.FitPolicy.lists g.met.B.FitPolicy.count c.requires.listed) c.requires.proxies c.requires.handles

pub returns-clause-empty : goal.returns-clause-empty
returns-clause-empty g c =
    fresh_empty c.args.s.now c.args.blocks c.args.proxies c.requires.blocks c.requires.words c.requires.tags g.B.FitPolicy.kind g.met.B.FitPolicy.tiled
    (first_of_kind g.B.FitPolicy.kind _ _ _ _ g.met.B.FitPolicy.lists g.met.B.FitPolicy.count c.requires.lists)
    (lists_of_kind g.B.FitPolicy.kind _ _ _ g.met.B.FitPolicy.lists g.met.B.FitPolicy.count c.requires.listed) c.requires.proxies c.requires.handles

pub returns-clause-rules : goal.returns-clause-rules
returns-clause-rules g c =
    fresh_rules c.args.s.now c.args.blocks c.args.proxies c.requires.blocks c.requires.words c.requires.tags g.B.FitPolicy.kind g.met.B.FitPolicy.tiled
    (first_of_kind g.B.FitPolicy.kind _ _ _ _ g.met.B.FitPolicy.lists g.met.B.FitPolicy.count c.requires.lists)
    (lists_of_kind g.B.FitPolicy.kind _ _ _ g.met.B.FitPolicy.lists g.met.B.FitPolicy.count c.requires.listed) c.requires.proxies c.requires.handles
