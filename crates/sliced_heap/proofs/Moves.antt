-- If two slots don't overlap, the words that a job moves out of one slot don't overlap the words of the other to which it moves them.
use Rattle.std.proofs.Common.{ℕ, ◌+◌, ◌≤◌, arith, inl, inr}
use Rattle.page_model.specs.Image.{IsDisjoint}

-- if two slots of n words don't overlap, c words of the one and c words of the other, both from word d of their slot on, don't overlap
pub part_apart : (a b n d c : ℕ) → IsDisjoint a n b n → d + c ≤ n → IsDisjoint (a + d) c (b + d) c
part_apart a b n d c (inl l) le = inl (omega arith)
part_apart a b n d c (inr r) le = inr (omega arith)
