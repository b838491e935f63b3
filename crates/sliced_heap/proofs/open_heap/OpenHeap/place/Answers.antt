use Rattle.std.proofs.Common.{◌∙◌, ap}
use Rattle.std.specs.FinMap.{get}
use Rattle.cf_base.proofs.MapValues.{get-map_values}
use Rattle.page_model.specs.Held.{Placed}
use Rattle.sliced_heap.specs.Heap.{sliced_seen}
use Rattle.sliced_heap.specs.Layout.{sliced_state_of}
use Rattle.sliced_heap.proofs.Facts.{places_are}
use Rattle.sliced_heap.proofs.open_heap.OpenHeap.place.Goals as goal

pub returns-clause-value : goal.returns-clause-value
returns-clause-value c =
    c.lookup.ensures.found ∙ ap (λ m. get m c.args.h.0) (places_are (sliced_seen c.args.self.now) c.requires)
    ∙ get-map_values (λ (x : Placed). x.place) (sliced_state_of (sliced_seen c.args.self.now)).held c.args.h.0
