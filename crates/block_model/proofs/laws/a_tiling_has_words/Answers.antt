use Rattle.block_model.proofs.TilingWords.{made}
use Rattle.block_model.proofs.laws.a_tiling_has_words.Goals as goal

pub returns : goal.returns
returns c = made
