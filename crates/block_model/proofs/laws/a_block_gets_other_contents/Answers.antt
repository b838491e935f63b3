use Rattle.block_model.proofs.Rewriting.{refilled, refilled_long, refilled_outside, refilled_words}
use Rattle.block_model.proofs.laws.a_block_gets_other_contents.Goals as goal

pub returns : goal.returns
returns c = λ content now count bs words place b h t are long there used others. (
  refilled content now count bs words place b h t are long there used others,
  refilled_words content now count bs words place b h t are long there used others,
  refilled_long content now count bs words place b h t are long there used others,
  refilled_outside content now count bs words place b h t are long there used others,
)
