use Rattle.cf_base.specs.Settings.{profile_of}
use Rattle.id_table.specs.Sessions.{run_at}
use Rattle.norphuen_images.proofs.Naming.{free_call, named_freed}
use Rattle.norphuen_images.proofs.held.HeldImages.free.Goals as goal

pub invariant_of-self : goal.invariant_of-self
invariant_of-self c = named_freed _ (run_at c.self.inside.names c.self.inside.heap.state) _ c.self.invariant c.args.id c.free.ensures.step c.free.ensures.going c.handle-first.ensures.within

pub returns : goal.returns
returns c = free_call (profile_of c.self.inside.settings) (run_at c.self.inside.names c.self.inside.heap.state) c.args.self.now _ c.self.view_is c.self.invariant (invariant_of-self c)
    c.args.id c.free.ensures.step
