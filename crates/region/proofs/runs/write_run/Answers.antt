use Rattle.std.proofs.Common.{◌∙◌, ap}
use Rattle.region.proofs.WordsAfter.{length-with_words}
use Rattle.region.specs.Cells.{byte_in, overwritten}
use Rattle.region.proofs.RunLemmas.{loan_overwrites}
use Rattle.region.proofs.runs.write_run.Goals as goal

pub returns-else-n-eq1-clause-words : goal.returns-else-n-eq1-clause-words
returns-else-n-eq1-clause-words c =
    loan_overwrites c.args.region.now c.write_bytes.new.words c.args.first c.args.n c.args.at c.args.bytes.now c.requires.within
    (c.write_bytes.auto.words ∙ c.payload_mut.ensures.len)
    (λ j. c.write_bytes.ensures j ∙ ap (λ ws. overwritten (byte_in ws) c.args.at c.args.bytes.now j) c.payload_mut.ensures.value)

pub returns-else-n-eq1-clause-len : goal.returns-else-n-eq1-clause-len
returns-else-n-eq1-clause-len c = length-with_words c.args.region.now c.args.first c.args.n c.requires.within c.write_bytes.new.words
