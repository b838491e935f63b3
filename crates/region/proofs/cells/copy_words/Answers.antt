use Rattle.std.proofs.Common.{◌≡◌, ℕ, ◌+◌, ◌-◌, ◌*◌, ◌/◌, ◌%◌, inl, inr, get_or, arith, ap, ◌∙◌}
use Rattle.std.proofs.lemmas.Bool.{cases_lt}
use Rattle.page_model.specs.Bytes.{byte_of}
use Rattle.region.proofs.Pieces.{put_inside, put_outside}
use Rattle.region.proofs.cells.copy_words.Goals as goal

pub words-preserved : goal.words-preserved
words-preserved c =
    let i = c.words.i in
    let out = c.words.out in
    let new = c.copy_word.new.out in
    let less = c.words-test.true in
    let r = c.requires in
    let l = c.words.auto.out in
    let word-bytes = c.copy_word.ensures in
    λ k lt. elim (cases_lt k (8 * i)) [
      | inl before ↦ put_outside out new (8 * i) (8 * i + 8 - 8 * i) (omega arith) (omega arith) k (inl before) ∙ c.words.invariant k before
      | inr from ↦ (
          let word : i ≡ k / 8 = omega arith in
          let rest : 0 + (k - 8 * i) ≡ k % 8 = omega arith in
          put_inside out new (8 * i) (8 * i + 8 - 8 * i) (omega arith) (omega arith) k from (omega arith)
          ∙ word-bytes (k - 8 * i) (omega arith)
          ∙ ap (λ (j : ℕ). byte_of j (get_or c.args.words.now i 0)) rest ∙ ap (λ (j : ℕ). byte_of (k % 8) (get_or c.args.words.now j 0)) word)
    ]
