use Rattle.std.proofs.Common.{refl}
use Rattle.paged_heap.proofs.ByKind.{first_frames_are, first_laid, framed_from}
use Rattle.paged_heap.proofs.EmptyHeap.{first_kept, first_empty}
use Rattle.paged_heap.proofs.open_heap.OpenHeap.empty.Goals as goal

pub returns-clause-kept : goal.returns-clause-kept
returns-clause-kept g c = record {
  laid = (first_laid g.A.Mapping.kind c.args.s.now c.args.blocks c.args.region c.requires.blocks c.requires.region).0;
  kept = first_kept _ (record {
    framed = framed_from g.A.Mapping.kind c.args.blocks c.args.region _
        (first_laid g.A.Mapping.kind c.args.s.now c.args.blocks c.args.region c.requires.blocks c.requires.region).0 refl refl;
    frames = first_frames_are g.A.Mapping.kind c.args.s.now c.args.blocks c.requires.blocks;
    words = (first_laid g.A.Mapping.kind c.args.s.now c.args.blocks c.args.region c.requires.blocks c.requires.region).1;
    table = c.requires.tables.classes;
    bounds = refl;
    live = refl;
    asked = refl;
    taken = refl;
    cost = refl;
    tables = λ i. record { maps = c.requires.tables.maps i; lists = c.requires.lists i; pool = c.requires.tables.pool i };
    proxies = c.requires.proxies;
    handles = c.requires.handles;
  });
}

pub returns-clause-empty : goal.returns-clause-empty
returns-clause-empty g c = first_empty _ (record {
  framed = framed_from g.A.Mapping.kind c.args.blocks c.args.region _
      (first_laid g.A.Mapping.kind c.args.s.now c.args.blocks c.args.region c.requires.blocks c.requires.region).0 refl refl;
  frames = first_frames_are g.A.Mapping.kind c.args.s.now c.args.blocks c.requires.blocks;
  words = (first_laid g.A.Mapping.kind c.args.s.now c.args.blocks c.args.region c.requires.blocks c.requires.region).1;
  table = c.requires.tables.classes;
  bounds = refl;
  live = refl;
  asked = refl;
  taken = refl;
  cost = refl;
  tables = λ i. record { maps = c.requires.tables.maps i; lists = c.requires.lists i; pool = c.requires.tables.pool i };
  proxies = c.requires.proxies;
  handles = c.requires.handles;
})
