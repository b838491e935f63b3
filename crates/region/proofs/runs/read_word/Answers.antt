use Rattle.std.proofs.Common.{◌≡◌, ◌+◌, ◌/◌, ◌%◌, ◌∙◌, get_or, arith, ap}
use Rattle.page_model.specs.Bytes.{byte_of}
use Rattle.region.proofs.runs.read_word.Goals as goal

pub returns-clause-bytes : goal.returns-clause-bytes
returns-clause-bytes c = λ j lt.
    let k = c.args.at + j in let words = c.args.region.now in
    let below = c.requires.fits in let long = c.copy_word.auto.out in
    let here : c.args.i ≡ c.args.i + k / 8 = omega arith in let low : k ≡ k % 8 = omega arith in
    c.copy_word.ensures j lt ∙ ap (byte_of k) (c.read.ensures.value ∙ ap (λ w. get_or words w 0) here)
    ∙ ap (λ b. byte_of b (get_or words (c.args.i + k / 8) 0)) low
