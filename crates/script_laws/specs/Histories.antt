-- For `equal_objects_get_equal_replies`: two states of runs with the same objects by id, and the further items that get the same replies from
-- both.
use Rattle.std.specs.Prelude.{◌≡◌, ⊤, ℕ, List, [], ◌∷◌}
use Rattle.run_model.specs.Terms.{asks, Bound, Item, RunState, starts}
use Rattle.run_model.specs.ById.{bytes_of}
use Rattle.script_laws.specs.Transcripts.{AsksForNoAddress}

-- two states of runs have the same kind and settings, and each id names the same bytes in both
pub record AreAlike (one other : RunState) : Type 0 where
  pub kind : other.heap.kind ≡ one.heap.kind
  pub profile : other.heap.profile ≡ one.heap.profile
  pub objects : (id : ℕ) → bytes_of other id ≡ bytes_of one id

-- a further item that gets the same reply from both states: no `heap` line, no command that sets a bound, and none that asks for an address or a cost
abbrev pub IsFurther : Item → Type 0
IsFurther (starts p) = ⊥
IsFurther (asks (Bound slot_words k)) = ⊥
IsFurther item = AsksForNoAddress item

-- `IsFurther` holds of each item
abbrev pub AreFurther : List Item → Type 0
AreFurther [] = ⊤
AreFurther (item ∷ rest) = IsFurther item × AreFurther rest
