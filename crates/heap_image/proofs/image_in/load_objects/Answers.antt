use Rattle.std.proofs.Common.{◌≡◌, false, true, Some, refl, arith}
use Rattle.std.specs.Prelude.{nat_le}
use Rattle.std.specs.FinMap.{empty}
use Rattle.std.specs.Int.{w32}
use Rattle.std.proofs.lemmas.Bool.Decides.{nat_tests}
use Rattle.id_table.specs.Sessions.{run_at}
use Rattle.heap_image.specs.Decoded.{at_first, breaks_after, count_decoded, entries_decoded}
use Rattle.heap_image.proofs.CountLemmas.{counts_nothing}
use Rattle.heap_image.proofs.LoadLemmas.{bad_end, ends_then, stops_end}
use Rattle.heap_image.proofs.StageLemmas.{field_bad, field_good, field_stops}
use Rattle.heap_image.proofs.image_in.load_objects.Goals as goal

pub returns-in-Err-clause-ends : goal.returns-in-Err-clause-ends
unfolding count_decoded
returns-in-Err-clause-ends g c =
    let p = (g.H.Manager.state c.args.heap.now).profile in
    stops_end (count_decoded p) p _ _ (run_at (g.N.Namer.state c.args.names.now) (g.H.Manager.state c.args.heap.now)) c.requires.loading refl c.requires.none c.in-Err.fault
    (field_stops w32 (breaks_after p empty 16) (λ n. nat_le n p.proxies) (λ n rest. entries_decoded p n at_first rest) _ _ 16 c.in-Err.fault
    (Some p) empty refl refl refl c.in-Err.ensures.reads)

pub returns-then-count-proxies-clause-ends : goal.returns-then-count-proxies-clause-ends
unfolding count_decoded
returns-then-count-proxies-clause-ends g c =
    let p = (g.H.Manager.state c.args.heap.now).profile in
    let same = c.requires.proxies in
    let no : nat_le c.in-Ok.count p.proxies ≡ false = grind (arith, nat_tests) in
    bad_end (count_decoded p) p _ _ (run_at (g.N.Namer.state c.args.names.now) (g.H.Manager.state c.args.heap.now)) c.requires.loading refl c.requires.none 16
    (field_bad w32 (breaks_after p empty 16) (λ n. nat_le n p.proxies) (λ n rest. entries_decoded p n at_first rest) _ _ 16 c.in-Ok.count
    c.in-Ok.ensures.reads no refl (omega arith))

pub returns-clause-ends : goal.returns-clause-ends
unfolding count_decoded
returns-clause-ends g c =
    let p = (g.H.Manager.state c.args.heap.now).profile in
    let same = c.requires.proxies in
    let yes : nat_le c.in-Ok.count p.proxies ≡ true = grind (arith, nat_tests) in
    ends_then (count_decoded p) (entries_decoded p c.in-Ok.count at_first) p _ _ _ c.load_entries.result _
    (field_good w32 (breaks_after p empty 16) (λ n. nat_le n p.proxies) (λ n rest. entries_decoded p n at_first rest) _ _ 16 c.in-Ok.count
    c.in-Ok.ensures.reads yes) c.load_entries.ensures.ends

pub returns-in-Err-clause-counts : goal.returns-in-Err-clause-counts
returns-in-Err-clause-counts g c = counts_nothing _

pub returns-then-count-proxies-clause-counts : goal.returns-then-count-proxies-clause-counts
returns-then-count-proxies-clause-counts g c = counts_nothing _
