use Rattle.std.proofs.Common.{refl, ap, subst, ◌∙◌}
use Rattle.step_ledger.specs.Counting.{RoseAtMost}
use Rattle.paged_heap.specs.PagedState.{PagedState}
use Rattle.paged_heap.specs.Payload.{payload_bound, payload_of}
use Rattle.paged_heap.proofs.PayloadLoan.{lent_kept, lent_rules, lent_state}
use Rattle.paged_heap.proofs.payload.PagedHeap+Direct.lend.Goals as goal

pub invariant_of-self-lent : goal.invariant_of-self-lent
invariant_of-self-lent c = λ ws. lent_kept c.self.inside.inner c.self.invariant c.args.h.0 ws

-- whatever words ws are in the place of the lent ones after the borrow
pub returns : goal.returns
returns c =
    let same = ap (λ (s : PagedState). payload_of s.state c.args.h.0) c.self.view_is in (
      (refl, λ ws. lent_state c.self.inside.inner c.self.invariant c.args.self.now c.self.view_is c.requires c.args.h.0 ws),
      record {
        writes_back = tt;
        value = c.words_in.ensures.value ∙ same;
        rules = λ ws. lent_rules c.self.inside.inner c.self.invariant c.args.self.now c.self.view_is c.requires c.args.h.0 ws;
        bound = subst (λ o. RoseAtMost c.args.steps.now c.words_in.new.steps (payload_bound o)) same c.words_in.ensures.bound;
      },
    )
