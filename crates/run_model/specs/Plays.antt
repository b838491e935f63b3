-- A run over the items of a script, and one item whose reply was cut, for any type `S` of states and two rules. `begins p reply s`: a `heap` line with settings
-- `p` may get this reply and lead to state `s`. `turns old command reply s`: in state `old` the command may get this reply and lead to `s`. `None` is the state
-- before the `heap` line.
use Rattle.std.specs.Prelude.{◌≡◌, ◌++◌, List, [], ◌∷◌, ℕ, Option, Some, None, ⊤}
use Rattle.cf_base.specs.Settings.{Profile}
use Rattle.script_reader.specs.Items.{Item, asks, bad, starts}
use Rattle.script_reader.specs.declared.command.Command.{Command}
use Rattle.run_model.specs.Texts.{Reply, bad_line, led, said}

-- In the given state the item may get `reply` and lead to state `new`. A bad line gets the reply `bad line` with its number, and changes nothing. No script has
-- a command before the `heap` line; such a command does nothing, and gets no line.
abbrev pub PlayStep : {S : Type 0} → (Profile → Reply → S → Type 0) → (S → Command → Reply → S → Type 0) → Option S → Item → Reply → Option S → Type 0
PlayStep {S} begins turns old (starts p) reply new = (s : S) × begins p reply s × (new ≡ Some s)
PlayStep begins turns None (asks command) reply new = (reply ≡ []) × (new ≡ None)
PlayStep {S} begins turns (Some old) (asks command) reply new = (s : S) × turns old command reply s × (new ≡ Some s)
PlayStep begins turns old (bad n) reply new = (reply ≡ said (bad_line n)) × (new ≡ old)

-- from the given state the items, in order, may get these replies, one each, and lead to state `new`
abbrev pub PlayRun : {S : Type 0} → (Profile → Reply → S → Type 0) → (S → Command → Reply → S → Type 0) → Option S → List Item → List Reply → Option S
    → Type 0
PlayRun begins turns old [] replies new = (replies ≡ []) × (new ≡ old)
PlayRun {S} begins turns old (item ∷ rest) replies new = (mid : Option S) × (reply : Reply) × (more : List Reply)
    × PlayStep begins turns old item reply mid × (replies ≡ reply ∷ more) × PlayRun begins turns mid rest more new

-- One item takes effect and leads to state `new`, but only `out`, a prefix of its reply, is written. `in_part old command out s` is the rule for a command;
-- for a `heap` line or a bad line, `lost` is the rest of the reply. A command before the `heap` line has no such part.
abbrev pub PlayPart : {S : Type 0} → (Profile → Reply → S → Type 0) → (S → Command → List ℕ → S → Type 0) → Option S → Item → List ℕ → Option S → Type 0
PlayPart {S} begins in_part old (starts p) out new = (s : S) × (reply : Reply) × (lost : List ℕ) × begins p reply s × (led [] reply ≡ out ++ lost)
    × (new ≡ Some s)
PlayPart begins in_part None (asks command) out new = ⊥
PlayPart {S} begins in_part (Some old) (asks command) out new = (s : S) × in_part old command out s × (new ≡ Some s)
PlayPart begins in_part old (bad n) out new = (lost : List ℕ) × (led [] (said (bad_line n)) ≡ out ++ lost) × (new ≡ old)

-- `Is` holds of the state of a run, if the run has begun
abbrev pub IsAt : {S : Type 0} → (S → Type 0) → Option S → Type 0
IsAt Is None = ⊤
IsAt Is (Some s) = Is s
