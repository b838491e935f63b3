use Rattle.std.proofs.Common.{◌∙◌, ap, refl, inl, inr, sym}
use Rattle.std.specs.FinMap.{get}
use Rattle.cf_base.specs.Settings.{profile_of}
use Rattle.id_table.specs.Sessions.{RunState, run_at}
use Rattle.norphuen_images.proofs.Naming.{live_found, make_call, named_made, none_found}
use Rattle.norphuen_images.proofs.held.HeldImages.make.Goals as goal

pub returns-then-is_some : goal.returns-then-is_some
returns-then-is_some c =
    let live = live_found c.handle.result c.self.inside.names.ids c.args.id c.handle.ensures.found (sym c.if-is_some.true ∙ c.is_some.ensures) in
    inr (inr (inl (refl, search, live.0, sym (ap (λ (s : RunState). get s.session.ids c.args.id) c.self.view_is) ∙ live.1)), refl)

pub invariant_of-self : goal.invariant_of-self
invariant_of-self c = named_made _ (run_at c.self.inside.names c.self.inside.heap.state) _ c.self.invariant c.args.id c.args.bytes c.malloc-made.result c.malloc-made.ensures.step
    c.malloc-made.ensures.going c.handle-first.ensures.within

pub returns-in-Ok : goal.returns-in-Ok
returns-in-Ok c = make_call (profile_of c.self.inside.settings) (run_at c.self.inside.names c.self.inside.heap.state) c.args.self.now _ c.self.view_is c.self.invariant
    (invariant_of-self c) c.args.id c.args.bytes c.malloc-made.result
    (none_found c.handle.result c.self.inside.names.ids c.args.id c.handle.ensures.found (sym c.if-is_some.false ∙ c.is_some.ensures))
    c.in-Ok.ensures.ok c.malloc-made.ensures.step
