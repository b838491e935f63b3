use Rattle.std.proofs.Common.{◌≡◌, ◌∙◌, ◌+◌, ◌-◌, ◌++◌, ◌≤◌, [], length, length-append, refl, arith, subst}
use Rattle.std.specs.Prelude.{replicate}
use Rattle.id_table.specs.Sessions.{SessionState}
use Rattle.std.proofs.lemmas.List.{length-take-le}
use Rattle.id_table.specs.Sessions.{run_at}
use Rattle.heap_image.specs.Counts.{CountsFree}
use Rattle.heap_image.specs.Feed.{feed_of}
use Rattle.heap_image.specs.Stages.{TakesFewer}
use Rattle.heap_image.proofs.FillObjectLemmas.{falls_more, held_in, leads_first, leads_removed, leads_written, part_fits, written_next}
use Rattle.heap_image.proofs.StageLemmas.{takes_nothing, takes_then}
use Rattle.heap_image.proofs.objects_in.fill_object.Goals as goal

pub chunks-init : goal.chunks-init
chunks-init g c = record {
  within = omega arith;
  bytes = [];
  count = refl;
  took = takes_nothing _;
  leads = leads_first (run_at (g.N.Namer.state c.args.names.now) (g.H.Manager.state c.args.heap.now)) c.args.id c.args.n c.requires.loading c.requires.made;
  counts = refl;
  same = omega arith;
}

pub free_object-requires-clause-live : goal.free_object-requires-clause-live
free_object-requires-clause-live g c =
    let so_far = c.chunks.invariant in (
      so_far.bytes ++ replicate (c.args.n - c.chunks.done) 0,
      held_in (run_at (g.N.Namer.state c.args.names.now) (g.H.Manager.state c.args.heap.now)) (run_at (g.N.Namer.state c.chunks.names) (g.H.Manager.state c.chunks.heap)) c.args.id _
          so_far.leads,
    )

pub free_object-requires-in-Failed-clause-live : goal.free_object-requires-in-Failed-clause-live
free_object-requires-in-Failed-clause-live g c =
    let so_far = c.chunks.invariant in (
      so_far.bytes ++ replicate (c.args.n - c.chunks.done) 0,
      held_in (run_at (g.N.Namer.state c.args.names.now) (g.H.Manager.state c.args.heap.now)) (run_at (g.N.Namer.state c.chunks.names) (g.H.Manager.state c.chunks.heap)) c.args.id _
          so_far.leads,
    )

pub returns-in-Cut-clause-fills : goal.returns-in-Cut-clause-fills
returns-in-Cut-clause-fills g c =
    let so_far = c.chunks.invariant in
    let size : length c.fill.new.buffer ≡ c.min-count.result = c.fill.auto.buffer ∙ length-take-le c.min-count.result c.chunks.buffer
    (omega (arith, c.min-count.ensures, c.requires.buffer, c.chunks.auto.buffer)) in
    let fits : c.chunks.done + c.min-count.result ≤ c.args.n = omega (arith, c.min-count.ensures) in
    let falls = subst (λ k. TakesFewer k (feed_of (g.S.Source.state c.chunks.source))
    (feed_of (g.S.Source.state c.fill.new.source))) size c.in-Cut.ensures.fills.0 in (
      (refl, falls_more so_far.bytes c.args.n c.chunks.done c.min-count.result _ _ _ so_far.count fits so_far.took falls, c.in-Cut.ensures.fills.1),
      leads_removed (run_at (g.N.Namer.state c.args.names.now) (g.H.Manager.state c.args.heap.now)) (run_at (g.N.Namer.state c.chunks.names) (g.H.Manager.state c.chunks.heap))
          (run_at (g.N.Namer.state c.free_object.new.names) (g.H.Manager.state c.free_object.new.heap)) c.args.id _ so_far.leads c.free_object.ensures.frees,
    )

pub returns-in-Failed-clause-fills : goal.returns-in-Failed-clause-fills
returns-in-Failed-clause-fills g c =
    let so_far = c.chunks.invariant in
    let size : length c.fill.new.buffer ≡ c.min-count.result = c.fill.auto.buffer ∙ length-take-le c.min-count.result c.chunks.buffer
    (omega (arith, c.min-count.ensures, c.requires.buffer, c.chunks.auto.buffer)) in
    let fits : c.chunks.done + c.min-count.result ≤ c.args.n = omega (arith, c.min-count.ensures) in
    let falls = subst (λ k. TakesFewer k (feed_of (g.S.Source.state c.chunks.source))
    (feed_of (g.S.Source.state c.fill.new.source))) size c.in-Failed.ensures.fills in (
      falls_more so_far.bytes c.args.n c.chunks.done c.min-count.result _ _ _ so_far.count fits so_far.took falls,
      leads_removed (run_at (g.N.Namer.state c.args.names.now) (g.H.Manager.state c.args.heap.now)) (run_at (g.N.Namer.state c.chunks.names) (g.H.Manager.state c.chunks.heap))
          (run_at (g.N.Namer.state c.free_object-in-Failed.new.names) (g.H.Manager.state c.free_object-in-Failed.new.heap)) c.args.id _ so_far.leads
          c.free_object-in-Failed.ensures.frees,
    )

pub write_object_bytes-requires-clause-within : goal.write_object_bytes-requires-clause-within
write_object_bytes-requires-clause-within g c =
    let so_far = c.chunks.invariant in
    let size : length c.fill.new.buffer ≡ c.min-count.result = c.fill.auto.buffer ∙ length-take-le c.min-count.result c.chunks.buffer
    (omega (arith, c.min-count.ensures, c.requires.buffer, c.chunks.auto.buffer)) in
    let fits : c.chunks.done + length c.fill.new.buffer ≤ c.args.n = omega (arith, c.min-count.ensures, size) in (
      so_far.bytes ++ replicate (c.args.n - c.chunks.done) 0,
      held_in (run_at (g.N.Namer.state c.args.names.now) (g.H.Manager.state c.args.heap.now)) (run_at (g.N.Namer.state c.chunks.names) (g.H.Manager.state c.chunks.heap)) c.args.id _
          so_far.leads,
      part_fits so_far.bytes c.args.n c.chunks.done (length c.fill.new.buffer) so_far.count fits,
    )

pub chunks-preserved : goal.chunks-preserved
chunks-preserved g c =
    let so_far = c.chunks.invariant in
    let old = run_at (g.N.Namer.state c.args.names.now) (g.H.Manager.state c.args.heap.now) in
    let mid = run_at (g.N.Namer.state c.chunks.names) (g.H.Manager.state c.chunks.heap) in
    let size : length c.fill.new.buffer ≡ c.min-count.result = c.fill.auto.buffer ∙ length-take-le c.min-count.result c.chunks.buffer
    (omega (arith, c.min-count.ensures, c.requires.buffer, c.chunks.auto.buffer)) in
    let fits : c.chunks.done + c.min-count.result ≤ c.args.n = omega (arith, c.min-count.ensures) in
    record {
      within = fits;
      bytes = so_far.bytes ++ c.fill.new.buffer;
      count = (let l = length-append so_far.bytes c.fill.new.buffer in let m = so_far.count in omega (arith, l, m, size));
      took = takes_then so_far.bytes c.fill.new.buffer _ _ _ so_far.took c.in-Whole.ensures.fills;
      leads = leads_written old mid (run_at (g.N.Namer.state c.write_object_bytes.new.names) (g.H.Manager.state c.write_object_bytes.new.heap)) c.args.id _ _ _ so_far.leads
          (c.write_object_bytes.ensures.writes (so_far.bytes ++ replicate (c.args.n - c.chunks.done) 0) (held_in old mid c.args.id _ so_far.leads))
          (written_next so_far.bytes c.fill.new.buffer c.args.n c.chunks.done c.min-count.result so_far.count size fits);
      counts = c.write_object_bytes.ensures.counts ∙ so_far.counts;
      same = c.in-Whole.ensures.source ∙ so_far.same;
    }

pub returns-in-Cut-clause-freed : goal.returns-in-Cut-clause-freed
returns-in-Cut-clause-freed g c =
    subst (λ (s : SessionState). CountsFree s (g.N.Namer.state c.free_object.new.names)) c.chunks.invariant.counts c.free_object.ensures.counts

pub returns-in-Failed-clause-freed : goal.returns-in-Failed-clause-freed
returns-in-Failed-clause-freed g c =
    subst (λ (s : SessionState). CountsFree s (g.N.Namer.state c.free_object-in-Failed.new.names)) c.chunks.invariant.counts c.free_object-in-Failed.ensures.counts
