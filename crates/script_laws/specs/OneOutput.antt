-- The conditions of `one_output`: a list of items that a script can have, and a manager that promises an order.
use Rattle.std.specs.Prelude.{⊤, List, [], ◌∷◌, Option, Some, None, IsSome}
use Rattle.run_model.specs.Terms.{asks, bad, Item, RunState, starts}

-- the item isn't a `heap` line
abbrev pub BeginsNone : Item → Type 0
BeginsNone (starts p) = ⊥
BeginsNone (asks command) = ⊤
BeginsNone (bad n) = ⊤

-- no item is a `heap` line
abbrev pub BeginNone : List Item → Type 0
BeginNone [] = ⊤
BeginNone (item ∷ rest) = BeginsNone item × BeginNone rest

-- no item after the first is a `heap` line, as in every script
abbrev pub BeginOnce : List Item → Type 0
BeginOnce [] = ⊤
BeginOnce (item ∷ rest) = BeginNone rest

-- if the run has begun, its manager promises an order
abbrev pub IsOrdered : Option RunState → Type 0
IsOrdered None = ⊤
IsOrdered (Some s) = IsSome s.heap.order
