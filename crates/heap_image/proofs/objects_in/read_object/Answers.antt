use Rattle.std.proofs.Common.{◌≡◌, ◌∙◌, ◌+◌, Some, false, true, ap, refl, inl, inr, subst, sym, arith}
use Rattle.std.specs.Prelude.{replicate}
use Rattle.std.specs.Bool.{OnFalse, OnTrue}
use Rattle.std.specs.FinMap.{insert}
use Rattle.std.specs.Int.{w32}
use Rattle.id_table.specs.Sessions.{run_at}
use Rattle.heap_image.specs.Decoded.{breaks_in, bytes_decoded, has_room, length_decoded}
use Rattle.heap_image.specs.Entries.{reached_in}
use Rattle.heap_image.specs.Heaps.{live_objects}
use Rattle.heap_image.specs.Stages.{LeadsTo}
use Rattle.id_table.specs.Ids.{Ids}
use Rattle.id_table.specs.Sessions.{SessionState}
use Rattle.heap_image.specs.Counts.{after_mallocs}
use Rattle.heap_image.proofs.CountLemmas.{counts_nothing, free_then}
use Rattle.heap_image.proofs.FillObjectLemmas.{held_in, leads_still, object_read, object_stops}
use Rattle.heap_image.proofs.StageLemmas.{field_bad, field_stops}
use Rattle.heap_image.proofs.objects_in.read_object.Goals as goal

pub returns-in-Err-clause-entry : goal.returns-in-Err-clause-entry
unfolding length_decoded
returns-in-Err-clause-entry g c = λ go.
    let old = run_at (g.N.Namer.state c.args.names.now) (g.H.Manager.state c.args.heap.now) in
    let p = (g.H.Manager.state c.args.heap.now).profile in
    let r = reached_in old c.args.next c.args.at in (
      field_stops w32 (breaks_in p r 2) (λ n. has_room p r.objects n) (λ n rest. bytes_decoded p r c.args.id n rest go) _ _ (c.args.at + 2) c.in-Err.fault
          (Some p) r.objects refl refl refl c.in-Err.ensures.reads,
      leads_still old c.requires.loading,
    )

pub returns-then-not-make_object-clause-entry : goal.returns-then-not-make_object-clause-entry
unfolding length_decoded
returns-then-not-make_object-clause-entry g c = λ go.
    let old = run_at (g.N.Namer.state c.args.names.now) (g.H.Manager.state c.args.heap.now) in
    let new = run_at (g.N.Namer.state c.make_object.new.names) (g.H.Manager.state c.make_object.new.heap) in
    let p = (g.H.Manager.state c.args.heap.now).profile in
    let r = reached_in old c.args.next c.args.at in
    let no : c.make_object.result ≡ false = c.if-not-make_object.true in (
      (
        breaks_in p r 2,
        refl,
        refl,
        refl,
        field_bad w32 (breaks_in p r 2) (λ n. has_room p r.objects n) (λ n rest. bytes_decoded p r c.args.id n rest go) _ _ (c.args.at + 2) c.in-Ok.n
            c.in-Ok.ensures.reads (sym c.make_object.ensures.test ∙ no) refl (omega arith),
      ),
      subst (λ b. OnFalse b (LeadsTo old new (live_objects old))) no c.make_object.ensures.refused,
    )

pub fill_object-requires-clause-made : goal.fill_object-requires-clause-made
fill_object-requires-clause-made g c =
    let old = run_at (g.N.Namer.state c.args.names.now) (g.H.Manager.state c.args.heap.now) in
    let new = run_at (g.N.Namer.state c.make_object.new.names) (g.H.Manager.state c.make_object.new.heap) in
    let yes : c.make_object.result ≡ true = c.if-not-make_object.false in
    held_in old new c.args.id (replicate c.in-Ok.n 0)
    (subst (λ b. OnTrue b (LeadsTo old new (insert (live_objects old) c.args.id (replicate c.in-Ok.n 0)))) yes c.make_object.ensures.made)

pub returns-in-Ok-fill_object-clause-entry : goal.returns-in-Ok-fill_object-clause-entry
returns-in-Ok-fill_object-clause-entry g c = λ go.
    let old = run_at (g.N.Namer.state c.args.names.now) (g.H.Manager.state c.args.heap.now) in
    let mid = run_at (g.N.Namer.state c.make_object.new.names) (g.H.Manager.state c.make_object.new.heap) in
    let new = run_at (g.N.Namer.state c.fill_object.new.names) (g.H.Manager.state c.fill_object.new.heap) in
    let yes : c.make_object.result ≡ true = c.if-not-make_object.false in
    let made = subst (λ b. OnTrue b (LeadsTo old mid (insert (live_objects old) c.args.id (replicate c.in-Ok.n 0)))) yes c.make_object.ensures.made in
    object_read old mid new (reached_in old c.args.next c.args.at) c.args.id c.in-Ok.n _ _ _ refl c.requires.rises (sym c.make_object.ensures.test ∙ yes)
    c.in-Ok.ensures.reads made go _ refl refl c.in-Ok-fill_object.ensures.fills

pub returns-in-Err-fill_object-clause-entry : goal.returns-in-Err-fill_object-clause-entry
returns-in-Err-fill_object-clause-entry g c = λ go.
    let old = run_at (g.N.Namer.state c.args.names.now) (g.H.Manager.state c.args.heap.now) in
    let mid = run_at (g.N.Namer.state c.make_object.new.names) (g.H.Manager.state c.make_object.new.heap) in
    let new = run_at (g.N.Namer.state c.fill_object.new.names) (g.H.Manager.state c.fill_object.new.heap) in
    let yes : c.make_object.result ≡ true = c.if-not-make_object.false in
    let made = subst (λ b. OnTrue b (LeadsTo old mid (insert (live_objects old) c.args.id (replicate c.in-Ok.n 0)))) yes c.make_object.ensures.made in
    object_stops old mid new (reached_in old c.args.next c.args.at) c.args.id c.in-Ok.n _ _ _ refl c.requires.rises (sym c.make_object.ensures.test ∙ yes)
    c.in-Ok.ensures.reads made go c.in-Err-fill_object.fault c.requires.fresh c.in-Err-fill_object.ensures.fills

pub returns-in-Err-clause-stopped : goal.returns-in-Err-clause-stopped
returns-in-Err-clause-stopped g c = counts_nothing _

pub returns-then-not-make_object-clause-stopped : goal.returns-then-not-make_object-clause-stopped
returns-then-not-make_object-clause-stopped g c = inl (true, c.make_object.ensures.counts)

pub returns-in-Ok-fill_object-clause-counts : goal.returns-in-Ok-fill_object-clause-counts
returns-in-Ok-fill_object-clause-counts g c =
    c.in-Ok-fill_object.ensures.counts ∙ c.make_object.ensures.counts
    ∙ ap (λ (i : Ids). after_mallocs (g.N.Namer.state c.args.names.now) true i) (sym (ap (λ (s : SessionState). s.ids) c.in-Ok-fill_object.ensures.counts))

pub returns-in-Err-fill_object-clause-stopped : goal.returns-in-Err-fill_object-clause-stopped
returns-in-Err-fill_object-clause-stopped g c =
    inr (free_then _ _ _ true c.make_object.ensures.counts c.in-Err-fill_object.ensures.freed)
