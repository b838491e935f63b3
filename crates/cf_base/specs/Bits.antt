-- How one bit of a word is written.
use Rattle.std.specs.Prelude.{◌≡◌, ◌≢◌, ℕ, ◌<◌, Bool, cond}
use Rattle.std.specs.Int.{bit_at}

-- the word `old` of `width` bits becomes `new`: the bit is set if `on`, else cleared, and the other bits stay
pub record WritesBit (width old new bit : ℕ) (on : Bool) : Type 0 where
  pub at : bit_at new bit ≡ cond on 1 0
  pub others : (k : ℕ) → k < width → k ≢ bit → bit_at new k ≡ bit_at old k
