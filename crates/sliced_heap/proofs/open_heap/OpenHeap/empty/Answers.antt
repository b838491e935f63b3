use Rattle.std.proofs.Common.{refl}
use Rattle.sliced_heap.proofs.OpenLemmas.{first_new, first_valid}
use Rattle.sliced_heap.proofs.open_heap.OpenHeap.empty.Goals as goal

pub returns-clause-kept : goal.returns-clause-kept
returns-clause-kept c = first_valid c.args.s.now c.args.quantum _ (record {
  settings = refl;
  asked = refl;
  table = c.requires.tables.classes;
  quantum = c.requires.least;
  live = refl;
  needed = refl;
  none_asked = refl;
  none_taken = refl;
  words = c.requires.region;
  tables = λ i. record { maps = c.requires.tables.maps i; lists = c.requires.lists i; pool = c.requires.tables.pool i };
  proxies = c.requires.proxies;
  handles = c.requires.handles;
  job = refl;
})

pub returns-clause-new : goal.returns-clause-new
returns-clause-new c = first_new c.args.s.now c.args.quantum _ (record {
  settings = refl;
  asked = refl;
  table = c.requires.tables.classes;
  quantum = c.requires.least;
  live = refl;
  needed = refl;
  none_asked = refl;
  none_taken = refl;
  words = c.requires.region;
  tables = λ i. record { maps = c.requires.tables.maps i; lists = c.requires.lists i; pool = c.requires.tables.pool i };
  proxies = c.requires.proxies;
  handles = c.requires.handles;
  job = refl;
})
