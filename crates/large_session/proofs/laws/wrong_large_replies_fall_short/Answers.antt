use Rattle.std.proofs.Common.{◌≡◌, ◌++◌, ℕ, [], ◌∷◌, take, arith, codes}
use Rattle.run_model.specs.Texts.{said}
use Rattle.large_session.specs.Small.{small_large_replies, small_walk, walk_of_wholes}
use Rattle.large_session.proofs.Worked.{eight_replies, letter_is, right_meets}
use Rattle.large_session.proofs.laws.wrong_large_replies_fall_short.Goals as goal

pub returns : goal.returns
returns c = record {
  right = right_meets;
  size = λ meets. (let z : ◌≡◌ {A = ℕ} 114 111 = letter_is 1 0 (small_large_replies (codes "refused size") (codes "=aabb") small_walk (codes "frag asked 698 taken 752 held 1536") (codes "refused space")) meets in omega arith);
  silent = λ meets. (let z : ◌≡◌ {A = ℕ} 0 8 = eight_replies [] meets in omega arith);
  missing = λ meets. (let z : ◌≡◌ {A = ℕ} 7 8 = eight_replies (take 7 (small_large_replies (codes "ok") (codes "=aabb") small_walk (codes "frag asked 698 taken 752 held 1536") (codes "refused space"))) meets in omega arith);
  over = λ meets. (let z : ◌≡◌ {A = ℕ} 9 8 = eight_replies (small_large_replies (codes "ok") (codes "=aabb") small_walk (codes "frag asked 698 taken 752 held 1536") (codes "refused space") ++ said (codes "ok") ∷ []) meets in omega arith);
  other = λ meets. (let z : ◌≡◌ {A = ℕ} 48 97 = letter_is 4 1 (small_large_replies (codes "ok") (codes "=0000") small_walk (codes "frag asked 698 taken 752 held 1536") (codes "refused space")) meets in omega arith);
  whole = λ meets. (let z : ◌≡◌ {A = ℕ} 49 52 = letter_is 5 6 (small_large_replies (codes "ok") (codes "=aabb") walk_of_wholes (codes "frag asked 698 taken 752 held 1536") (codes "refused space")) meets in omega arith);
  spine = λ meets. (let z : ◌≡◌ {A = ℕ} 48 56 = letter_is 6 13 (small_large_replies (codes "ok") (codes "=aabb") small_walk (codes "frag asked 690 taken 752 held 1536") (codes "refused space")) meets in omega arith);
  slots = λ meets. (let z : ◌≡◌ {A = ℕ} 50 53 = letter_is 6 22 (small_large_replies (codes "ok") (codes "=aabb") small_walk (codes "frag asked 698 taken 720 held 1536") (codes "refused space")) meets in omega arith);
  pages = λ meets. (let z : ◌≡◌ {A = ℕ} 111 114 = letter_is 7 0 (small_large_replies (codes "ok") (codes "=aabb") small_walk (codes "frag asked 698 taken 752 held 1536") (codes "ok")) meets in omega arith);
}
