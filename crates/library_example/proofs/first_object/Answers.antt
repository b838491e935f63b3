use Rattle.library_example.proofs.Storing.{one_is_there}
use Rattle.library_example.proofs.first_object.Goals as goal

pub returns : goal.returns
returns c = one_is_there c.open_heap.result c.store.result c.in_ok-ok.field-0 _ _ _ c.open_heap.new.self.state _ _ c.in_ok-ok.ensures.value
    c.in_ok-object.ensures.value c.open_heap.ensures.ok c.store.ensures.same c.store.ensures.made
