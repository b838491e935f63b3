use Rattle.std.proofs.Common.{◌∙◌}
use Rattle.tag_heap.proofs.ReadLemmas.{place_described}
use Rattle.tag_heap.proofs.open_heap.OpenHeap.place.Goals as goal

pub returns-clause-value : goal.returns-clause-value
returns-clause-value g c = rw (← c.self.view_is) (c.lookup.ensures.found ∙ place_described c.self.inside.blocks.words c.self.inside.proxies.places c.args.h.0)
