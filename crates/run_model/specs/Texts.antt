-- The definitions from which replies are composed (from `cf_io`), and the reply to a bad line.
pub use Rattle.cf_io.specs.Texts.{Reply, led, said, text_of, with_number}
use Rattle.std.specs.Prelude.{ℕ, List, codes}

-- the text of the reply to line `n` of a script, if that line is bad
abbrev pub bad_line : ℕ → List ℕ
bad_line n = with_number (codes "bad line ") n
