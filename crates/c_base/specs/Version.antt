-- The version of the libraries for C.
use Rattle.std.specs.Prelude.{ℕ}

-- 10,000 times the major number, 100 times the minor one, and the patch
abbrev pub version : ℕ
version = 400
