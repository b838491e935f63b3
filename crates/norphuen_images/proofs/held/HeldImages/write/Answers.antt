use Rattle.std.proofs.Common.{refl, rules}
use Rattle.std.specs.Prelude.{Ok, Err}
use Rattle.cf_base.specs.Settings.{profile_of}
use Rattle.id_table.specs.Sessions.{run_at}
use Rattle.norphuen_images.proofs.Naming.{named_written, write_call}
use Rattle.norphuen_images.proofs.held.HeldImages.write.Goals as goal
use Rattle.norphuen_images.proofs.held.HeldImages.write.Goals.{in-Ok, in-Err}

pub invariant_of-self : goal.invariant_of-self
invariant_of-self c = named_written _ (run_at c.self.inside.names c.self.inside.heap.state) _ c.self.invariant c.number-number.result c.args.at c.args.bytes.now c.write.result
    c.write.ensures.step c.write.ensures.rules refl

pub returns : goal.returns
returns c = elim c.match-write.branch [
  | in-Ok w ↦ write_call (profile_of c.self.inside.settings) (run_at c.self.inside.names c.self.inside.heap.state) c.args.self.now _ c.self.view_is c.self.invariant
      (invariant_of-self c) c.args.id c.number-number.result c.args.at c.args.bytes.now _ (Ok tt) c.number-number.ensures w.result-is w.in-Ok.ensures.step refl
  | in-Err w ↦ write_call (profile_of c.self.inside.settings) (run_at c.self.inside.names c.self.inside.heap.state) c.args.self.now _ c.self.view_is c.self.invariant
      (invariant_of-self c) c.args.id c.number-number.result c.args.at c.args.bytes.now _ (Err w.in-Err.cause) c.number-number.ensures
      (search rules) w.in-Err.ensures.step refl
]
