use Rattle.std.proofs.Common.{◌≡◌, ◌+◌, Some, false, true, refl, ap, arith}
use Rattle.std.specs.Prelude.{nat_le}
use Rattle.std.specs.Int.{w16}
use Rattle.std.proofs.lemmas.Bool.Decides.{nat_tests}
use Rattle.id_table.specs.Sessions.{run_at}
use Rattle.heap_image.specs.Decoded.{breaks_in, entry_decoded, length_decoded}
use Rattle.heap_image.specs.Entries.{reached_in}
use Rattle.heap_image.proofs.CountLemmas.{counts_nothing}
use Rattle.heap_image.proofs.FillObjectLemmas.{entry_then, leads_still}
use Rattle.heap_image.proofs.StageLemmas.{field_bad, field_good, field_stops}
use Rattle.heap_image.proofs.objects_in.read_entry.Goals as goal

pub returns-in-Err-clause-entry : goal.returns-in-Err-clause-entry
unfolding entry_decoded
returns-in-Err-clause-entry g c = λ go.
    let old = run_at (g.N.Namer.state c.args.names.now) (g.H.Manager.state c.args.heap.now) in
    let p = (g.H.Manager.state c.args.heap.now).profile in
    let r = reached_in old c.args.next c.args.at in
    let here : c.args.at + 0 ≡ c.args.at = omega arith in (
      field_stops w16 (breaks_in p r 0) (λ id. nat_le r.next id) (λ id rest. length_decoded p r id rest go) _ _ c.args.at c.in-Err.fault
          (Some p) r.objects (ap (λ k. Some k) here) refl refl c.in-Err.ensures.reads,
      leads_still old c.requires.loading,
    )

pub returns-then-id-next-clause-entry : goal.returns-then-id-next-clause-entry
unfolding entry_decoded
returns-then-id-next-clause-entry g c = λ go.
    let old = run_at (g.N.Namer.state c.args.names.now) (g.H.Manager.state c.args.heap.now) in
    let p = (g.H.Manager.state c.args.heap.now).profile in
    let r = reached_in old c.args.next c.args.at in
    let here : c.args.at + 0 ≡ c.args.at = omega arith in
    let no : nat_le c.args.next c.in-Ok.id ≡ false = grind (arith, nat_tests) in (
      (
        breaks_in p r 0,
        ap (λ k. Some k) here,
        refl,
        refl,
        field_bad w16 (breaks_in p r 0) (λ id. nat_le r.next id) (λ id rest. length_decoded p r id rest go) _ _ c.args.at c.in-Ok.id
            c.in-Ok.ensures.reads no refl (omega arith),
      ),
      leads_still old c.requires.loading,
    )

pub returns-clause-entry : goal.returns-clause-entry
unfolding entry_decoded
returns-clause-entry g c = λ go.
    let old = run_at (g.N.Namer.state c.args.names.now) (g.H.Manager.state c.args.heap.now) in
    let p = (g.H.Manager.state c.args.heap.now).profile in
    let r = reached_in old c.args.next c.args.at in
    let yes : nat_le c.args.next c.in-Ok.id ≡ true = grind (arith, nat_tests) in
    entry_then (λ bytes. entry_decoded p r bytes go) (λ bytes. length_decoded p r c.in-Ok.id bytes go) go old r _ _ _ c.read_object.result _
    (field_good w16 (breaks_in p r 0) (λ id. nat_le r.next id) (λ id rest. length_decoded p r id rest go) _ _ c.args.at c.in-Ok.id c.in-Ok.ensures.reads yes)
    (c.read_object.ensures.entry go)

pub returns-in-Err-clause-stopped : goal.returns-in-Err-clause-stopped
returns-in-Err-clause-stopped g c = counts_nothing _

pub returns-then-id-next-clause-stopped : goal.returns-then-id-next-clause-stopped
returns-then-id-next-clause-stopped g c = counts_nothing _
