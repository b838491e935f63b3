use Rattle.heap_tests.proofs.ReadyLemmas.{opened_ready}
use Rattle.heap_tests.proofs.tests.images.open.Goals as goal

pub returns-clause-opened : goal.returns-clause-opened
returns-clause-opened g c = opened_ready c.args.session.now (g.H.Manager.state c.args.heap.now) (g.H.Manager.state c.open_heap.new.self) c.args.settings.now
    c.requires.moving c.requires.fresh c.in_ok-open_heap.ensures.ok c.in_ok-open_heap.ensures.rules
