use Rattle.std.proofs.Common.{◌≡◌, ℕ, Bool, refl, sym, subst}
use Rattle.std.specs.FinMap.{get}
use Rattle.step_ledger.specs.Counting.{RoseAtMost}
use Rattle.paged_heap.specs.PayloadLoan.{with_payload_of, with_run}
use Rattle.paged_heap.specs.Payload.{payload_bound}
use Rattle.paged_heap.proofs.PayloadLoan.{found_run}
use Rattle.paged_heap.proofs.PayloadWords.{bound_lent, value_lent}
use Rattle.paged_heap.proofs.payload.payload_mut.Goals as goal

pub returns : goal.returns
returns c =
    let h = c.args.heap.now in let q = c.args.h.0 in let p = get h.proxies.places q in
    let found = c.find_words-live.ensures.found in let r = c.find_words-live.result in let ws = c.run_of.result.now in
    let value = value_lent h c.requires.kept.kept q r found ws c.run_of.ensures.value in (
      (refl, λ w. subst (λ (r : Bool × ℕ × ℕ). with_run h r.1 r.2 w ≡ with_payload_of h p w) (sym found) (found_run h p w)),
      record {
        writes_back = tt;
        value = value;
        bound = subst (λ o. RoseAtMost c.args.steps.now c.run_of.new.steps (payload_bound o)) value
            (bound_lent h c.requires.kept.kept q r found ws c.args.steps.now c.find_words-live.new.steps c.run_of.new.steps
            c.run_of.ensures.len c.find_words-live.ensures.bound c.run_of.ensures.steps);
      },
    )
