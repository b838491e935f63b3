-- For `fill`, which fills a buffer from a source in several calls, and `read_end`, which reads at most one byte more: the bytes that a call took are added
-- to those in the buffer.
use Rattle.std.proofs.Common.{◌≡◌, ◌∙◌, ◌++◌, ◌+◌, ◌≤◌, ℕ, List, [], ◌∷◌, length, take, drop, get_or, refl, ap, sym, subst, arith, length-append}
use Rattle.std.proofs.lemmas.List.{length-take-le, take-append-le}
use Rattle.std.proofs.Math.Seq.{take-add, take-append_seam, drop-append_seam}
use borrow.Rule.Slice.PartMut.{put_mid, post_of}
use Rattle.std.specs.Prelude.{min}
use Rattle.cf_io.specs.Feeds.{HasGiven, last_count, preceded}
use Rattle.cf_io.proofs.CallerLemmas.{given_min}
use Rattle.heap_image.specs.Feed.{Feed, TakesBytes}
use Rattle.heap_image.proofs.StageLemmas.{takes_then}

-- the list a and the first n elements of b after it
front_and : (a b : List ℕ) (n k : ℕ) → k ≡ length a → take (k + n) (a ++ b) ≡ a ++ take n b
front_and a b n k is =
    take-add k n (a ++ b)
    ∙ (λ i. (ap (λ k. take k (a ++ b)) is ∙ take-append_seam a b) i ++ take n ((ap (λ k. drop k (a ++ b)) is ∙ drop-append_seam a b) i))

module _ (at n k : ℕ) (buffer chunk : List ℕ) (within : at ≤ length buffer) (few : n ≤ length chunk) where
  front : at ≡ length (take at buffer)
  front = sym (length-take-le at buffer within)

  pub filled_within : at + n ≤ length (put_mid at k buffer chunk)
  filled_within =
      let a = length-append (take at buffer) (chunk ++ post_of at k buffer) in
      let b = length-append chunk (post_of at k buffer) in
      let c = front in
      omega arith

  pub filled_more : (had mid left : Feed) → TakesBytes (take at buffer) had mid → TakesBytes (take n chunk) mid left
      → TakesBytes (take (at + n) (put_mid at k buffer chunk)) had left
  filled_more had mid left before more = subst (λ (b : List ℕ). TakesBytes b had left)
      (sym (front_and (take at buffer) (chunk ++ post_of at k buffer) n at front
      ∙ ap (λ (b : List ℕ). take at buffer ++ b) (take-append-le n chunk (post_of at k buffer) few)))
      (takes_then (take at buffer) (take n chunk) had mid left before more)

-- a call of a source that returned n bytes took the first n bytes of the chunk
pub chunk_taken : (n : ℕ) (chunk : List ℕ) (had left : Feed) → n ≤ length chunk → had.rest ≡ preceded (take n chunk) left.rest
    → left.given ≡ min (had.given + n) last_count → TakesBytes (take n chunk) had left
chunk_taken n chunk had left few first counted = record {
  first = first;
  counted = subst (λ k. HasGiven had.given k left.given) (sym (length-take-le n chunk few)) (given_min had.given left.given n counted);
}

-- a list of one byte
pub one_byte : (xs : List ℕ) → length xs ≡ 1 → xs ≡ get_or xs 0 0 ∷ []
one_byte [] e = absurd (omega arith)
one_byte (x ∷ []) e = refl
one_byte (x ∷ y ∷ xs) e = absurd (omega arith)
