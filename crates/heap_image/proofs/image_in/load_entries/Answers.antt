use Rattle.std.proofs.Common.{◌≡◌, ◌∙◌, ◌+◌, ap, arith, refl, rules, sym, true}
use Rattle.std.specs.Prelude.{nat_lt}
use Rattle.std.proofs.lemmas.Bool.Decides.{nat_tests}
use Rattle.id_table.specs.Sessions.{run_at}
use Rattle.heap_image.specs.Counts.{after_mallocs}
use Rattle.heap_image.proofs.CountLemmas.{all_counted, mallocs_then, stop_then}
use Rattle.heap_image.proofs.EndLemmas.{all_end, entries_begin, entry_counts, entry_ends, entry_fresh, entry_leads, entry_passes, nothing_counts, nothing_fresh}
use Rattle.heap_image.proofs.image_in.load_entries.Goals as goal

pub entries-init : goal.entries-init
entries-init g c =
    let s = run_at (g.N.Namer.state c.args.names.now) (g.H.Manager.state c.args.heap.now) in
    record {
      loading = c.requires.loading;
      profile = refl;
      passed = entries_begin (g.H.Manager.state c.args.heap.now).profile c.args.count s _ c.requires.none;
      fresh = λ id le. nothing_fresh s c.requires.none id;
      count = nothing_counts s c.requires.none;
      counts = refl;
      at = omega arith;
      same = omega arith;
    }

pub returns-in-Err-clause-ends : goal.returns-in-Err-clause-ends
returns-in-Err-clause-ends g c =
    let inv = c.entries.invariant in
    entry_ends (g.H.Manager.state c.args.heap.now).profile (g.H.Manager.state c.entries.heap).profile c.args.count c.entries.i c.entries.next c.entries.at _ _ _
    (run_at (g.N.Namer.state c.entries.names) (g.H.Manager.state c.entries.heap)) (run_at (g.N.Namer.state c.read_entry.new.names) (g.H.Manager.state c.read_entry.new.heap)) c.in-Err.fault
    c.entries-test.true inv.profile inv.profile inv.passed c.in-Err.ensures.entry

pub entries-preserved : goal.entries-preserved
entries-preserved g c =
    let inv = c.entries.invariant in
    let p = (g.H.Manager.state c.args.heap.now).profile in
    let q = (g.H.Manager.state c.entries.heap).profile in
    let old = run_at (g.N.Namer.state c.entries.names) (g.H.Manager.state c.entries.heap) in
    let new = run_at (g.N.Namer.state c.read_entry.new.names) (g.H.Manager.state c.read_entry.new.heap) in
    let leads = entry_leads p q c.args.count c.entries.i c.entries.next c.entries.at _ _ _ old new c.in-Ok.entry c.entries-test.true inv.profile inv.passed
    c.in-Ok.ensures.entry inv.fresh in
    let at = inv.at in
    record {
      loading = leads.loading;
      profile = leads.profile ∙ inv.profile;
      passed = entry_passes p q c.args.count c.entries.i c.entries.next c.entries.at _ _ _ old new c.in-Ok.entry c.entries-test.true inv.profile inv.passed
          c.in-Ok.ensures.entry inv.fresh;
      fresh = entry_fresh p q c.args.count c.entries.i c.entries.next c.entries.at _ _ _ old new c.in-Ok.entry c.entries-test.true inv.profile inv.passed
          c.in-Ok.ensures.entry inv.fresh;
      count = entry_counts p q c.args.count c.entries.i c.entries.next c.entries.at _ _ _ old new c.in-Ok.entry c.entries-test.true inv.profile inv.passed
          c.in-Ok.ensures.entry inv.fresh inv.count;
      counts = mallocs_then (g.N.Namer.state c.args.names.now) (g.N.Namer.state c.entries.names) (g.N.Namer.state c.read_entry.new.names) (nat_lt 0 c.entries.i) inv.counts c.in-Ok.ensures.counts
          ∙ ap (λ b. after_mallocs (g.N.Namer.state c.args.names.now) b (g.N.Namer.state c.read_entry.new.names).ids) (let lt : nat_lt 0 (c.entries.i + 1) ≡ true = grind (arith, nat_tests) in sym lt);
      at = first_of (omega (arith, at), omega (arith, at, c.read_entry.type_inv), grind (arith, at), search rules);
      same = c.in-Ok.ensures.source ∙ inv.same;
    }

pub returns-clause-ends : goal.returns-clause-ends
returns-clause-ends g c =
    let inv = c.entries.invariant in
    all_end (g.H.Manager.state c.args.heap.now).profile c.args.count c.entries.i c.entries.next c.entries.at _ _ _
    (run_at (g.N.Namer.state c.entries.names) (g.H.Manager.state c.entries.heap)) c.read_end.result c.entries-test.false inv.loading inv.profile inv.passed
    c.read_end.ensures.end

pub returns-in-Err-clause-counts : goal.returns-in-Err-clause-counts
returns-in-Err-clause-counts g c = stop_then (g.N.Namer.state c.args.names.now) (g.N.Namer.state c.entries.names) (g.N.Namer.state c.read_entry.new.names) (nat_lt 0 c.entries.i) c.entries.invariant.counts c.in-Err.ensures.stopped

pub returns-clause-counts : goal.returns-clause-counts
returns-clause-counts g c =
    all_counted (g.N.Namer.state c.args.names.now) (run_at (g.N.Namer.state c.entries.names) (g.H.Manager.state c.entries.heap)) c.entries.i c.read_end.result c.entries.invariant.counts
    c.entries.invariant.count
