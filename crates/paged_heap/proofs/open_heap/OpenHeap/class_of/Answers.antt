-- The sizes of the tables are those of the classes.
use Rattle.std.proofs.Common.{ap, ◌∙◌}
use Rattle.cf_base.specs.Classes.{class_of}
use Rattle.paged_heap.specs.Heap.{seen}
use Rattle.paged_heap.proofs.LayoutFacts.{sizes_are}
use Rattle.paged_heap.proofs.open_heap.OpenHeap.class_of.Goals as goal

pub returns-clause-value : goal.returns-clause-value
returns-clause-value g c =
    c.class_of.ensures.found ∙ ap (λ xs. class_of xs c.args.bytes) (sizes_are (seen g.A.Mapping.kind c.args.self.now) c.requires.kept)
