-- Which commands of a session over long objects have a reply of one line, which `build_reply` builds: all but `walk` and `frag`. No public clause cites this
-- module.
use Rattle.run_model.specs.Terms.{Command, Frag, Walk}

-- the command is no report (`walk` or `frag`), so the session builds its reply on one line
abbrev pub IsOneLine : Command → Type 0
IsOneLine Walk = ⊥
IsOneLine Frag = ⊥
IsOneLine command = Unit {0}
