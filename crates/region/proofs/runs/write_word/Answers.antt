use Rattle.std.proofs.Common.{◌∙◌, set, arith, ap}
use Rattle.std.proofs.lemmas.List.{length-set}
use Rattle.region.proofs.WordsAfter.{length-with_words}
use Rattle.region.specs.Cells.{byte_in, overwritten}
use Rattle.region.proofs.RunLemmas.{first_overwritten, loan_overwrites}
use Rattle.region.proofs.runs.write_word.Goals as goal

pub returns-clause-words : goal.returns-clause-words
returns-clause-words c =
    let lent = c.payload_mut-words.result.now in let word = c.patched.result in
    let one = c.payload_mut-words.ensures.len in let long = length-set lent 0 word in
    loan_overwrites c.args.region.now (set lent 0 word) c.args.i 1 c.args.at c.args.bytes.now (let l = c.requires.within in omega arith) (omega arith)
    (λ k. first_overwritten lent c.args.at word c.args.bytes.now (omega arith) c.requires.fits c.patched.ensures k
    ∙ ap (λ ws. overwritten (byte_in ws) c.args.at c.args.bytes.now k) c.payload_mut-words.ensures.value)

pub returns-clause-len : goal.returns-clause-len
returns-clause-len c =
    length-with_words c.args.region.now c.args.i 1 (let l = c.requires.within in omega arith) (set c.payload_mut-words.result.now 0 c.patched.result)
