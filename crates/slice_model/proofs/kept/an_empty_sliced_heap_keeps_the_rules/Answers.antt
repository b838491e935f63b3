use Rattle.std.proofs.Common.{◌≡◌, Some, None, sym, ◌∙◌}
use Rattle.std.specs.FinMap.{get-empty}
use Rattle.std.specs.Ordering.{nat_cmp}
use Rattle.page_model.proofs.CallerLemmas.{sound_empty}
use Rattle.slice_model.proofs.kept.an_empty_sliced_heap_keeps_the_rules.Goals as goal

pub returns : goal.returns
returns c = λ plan. record {
  numbers = λ h x there. absurd (let e : Some x ≡ None = sym there ∙ get-empty nat_cmp h in cc);
  job = tt;
  sound =
      sound_empty plan.paging;
}
