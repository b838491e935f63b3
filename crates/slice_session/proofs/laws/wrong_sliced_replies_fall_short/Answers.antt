use Rattle.std.proofs.Common.{◌≡◌, ◌++◌, ℕ, [], ◌∷◌, take, arith, codes}
use Rattle.run_model.specs.Texts.{said}
use Rattle.slice_session.specs.Small.{small_sliced_replies}
use Rattle.slice_session.proofs.Worked.{eight_replies, letter_is, right_meets}
use Rattle.slice_session.proofs.laws.wrong_sliced_replies_fall_short.Goals as goal

pub returns : goal.returns
returns c = record {
  right = right_meets;
  size = λ meets. (let z : ◌≡◌ {A = ℕ} 114 111 = letter_is 1 0 (small_sliced_replies (codes "refused size") (codes "left 7") (codes "busy") (codes "ok") (codes "busy")) meets in omega arith);
  silent = λ meets. (let z : ◌≡◌ {A = ℕ} 0 8 = eight_replies [] meets in omega arith);
  missing = λ meets. (let z : ◌≡◌ {A = ℕ} 7 8 = eight_replies (take 7 (small_sliced_replies (codes "ok") (codes "left 7") (codes "busy") (codes "ok") (codes "busy"))) meets in omega arith);
  over = λ meets. (let z : ◌≡◌ {A = ℕ} 9 8 = eight_replies (small_sliced_replies (codes "ok") (codes "left 7") (codes "busy") (codes "ok") (codes "busy") ++ said (codes "ok") ∷ []) meets in omega arith);
  at_once = λ meets. (let z : ◌≡◌ {A = ℕ} 48 55 = letter_is 4 5 (small_sliced_replies (codes "ok") (codes "left 0") (codes "busy") (codes "ok") (codes "busy")) meets in omega arith);
  done = λ meets. (let z : ◌≡◌ {A = ℕ} 49 55 = letter_is 4 5 (small_sliced_replies (codes "ok") (codes "left 16") (codes "busy") (codes "ok") (codes "busy")) meets in omega arith);
  beside = λ meets. (let z : ◌≡◌ {A = ℕ} 111 98 = letter_is 5 0 (small_sliced_replies (codes "ok") (codes "left 7") (codes "ok") (codes "ok") (codes "busy")) meets in omega arith);
  page = λ meets. (let z : ◌≡◌ {A = ℕ} 98 111 = letter_is 6 0 (small_sliced_replies (codes "ok") (codes "left 7") (codes "busy") (codes "busy") (codes "busy")) meets in omega arith);
  slot = λ meets. (let z : ◌≡◌ {A = ℕ} 111 98 = letter_is 7 0 (small_sliced_replies (codes "ok") (codes "left 7") (codes "busy") (codes "ok") (codes "ok")) meets in omega arith);
}
