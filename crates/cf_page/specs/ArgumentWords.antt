-- The arguments that a caller passes as lines.
use Rattle.std.specs.Prelude.{◌==◌, ◌∷◌, ℕ, List, codes}
use Rattle.std.specs.List.{slice_split}
use Rattle.clap.specs.Words.{Text}

-- the arguments in these lines, which line feeds separate: the program's name, and then each line
abbrev pub argument_words : List ℕ → List Text
argument_words lines = codes "cf_tool" ∷ slice_split (λ b. b == 10) lines
