use Rattle.std.proofs.Common.{◌≡◌, ◌∙◌, ◌+◌, ◌≤◌, Some, length, subst, sym}
use Rattle.id_table.specs.Sessions.{run_at}
use Rattle.page_model.specs.Held.{objects}
use Rattle.id_table.proofs.CallerLemmas.{found_by_id, names_of_objects}
use Rattle.page_model.proofs.CallerLemmas.{bytes_held}
use Rattle.heap_image.proofs.StepLemmas.{wrote}
use Rattle.heap_image.proofs.objects_in.write_object_bytes.Goals as goal

pub write-requires-clause-within : goal.write-requires-clause-within
write-requires-clause-within g c =
    let live = c.requires.within in
    let ids = (g.N.Namer.state c.args.names.now).ids in
    let held = (g.H.Manager.state c.args.heap.now).held in
    let tied = c.requires.loading.going.tied.ids in
    let h = found_by_id ids (objects held) (names_of_objects ids held tied) c.args.id live.0 live.1 in
    let x = tied.named c.args.id h.0 h.1 in
    let e : Some live.0 ≡ Some x.0.bytes = sym h.2 ∙ bytes_held held h.0 x.0 x.1 in
    let same : live.0 ≡ x.0.bytes = cc in
    record {
      number = h.0;
      named = h.1;
      object = x.0;
      found = x.1;
      long = subst (λ v. c.args.at + length c.args.bytes.now ≤ length v) same live.2;
    }

pub returns-clause-writes : goal.returns-clause-writes
returns-clause-writes g c = λ v some.
    wrote (run_at (g.N.Namer.state c.args.names.now) (g.H.Manager.state c.args.heap.now))
    (run_at (g.N.Namer.state c.write.new.self) (g.H.Manager.state c.write.new.heap))
    c.requires.loading c.write.ensures.going c.args.id c.args.at c.args.bytes.now v some c.write.ensures.step

pub returns-clause-counts : goal.returns-clause-counts
returns-clause-counts g c = c.write.ensures.step.session
