-- The transcript: the replies to the items of a script, as a function of the kind and the items; and the conditions under which runs print it. `None` is the
-- state before the `heap` line.
use Rattle.std.specs.Prelude.{◌≡◌, ⊤, List, [], ◌∷◌, Option, Some, None, codes}
use Rattle.run_model.specs.Terms.{asks, bad, bad_line, Block, Bound, Command, EveryBoundIsOne, Item, Kind, Peek, Place, Reply, said, starts, Steps}
use Rattle.script_laws.specs.ById.{ById, begun, paging_by_id}
use Rattle.script_laws.specs.RepliesById.{after_by_id, reply_by_id}

-- the reply to an item in state `t`; before the `heap` line a command has a reply without lines
abbrev pub reply_at : Option ById → Item → Reply
reply_at t (starts p) = said (codes "ok")
reply_at None (asks command) = []
reply_at (Some t) (asks command) = reply_by_id t command
reply_at t (bad n) = said (bad_line n)

-- the state after an item in state `t`, on a heap of the kind
abbrev pub after_at : Kind → Option ById → Item → Option ById
after_at kind t (starts p) = Some (begun kind p)
after_at kind None (asks command) = None
after_at kind (Some t) (asks command) = Some (after_by_id t command)
after_at kind t (bad n) = t

-- the replies to the items, one each, from state `t` on
abbrev pub replies_from : Kind → Option ById → List Item → List Reply
replies_from kind t [] = []
replies_from kind t (item ∷ rest) = reply_at t item ∷ replies_from kind (after_at kind t item) rest

-- the replies to the items of a script
abbrev pub transcript : Kind → List Item → List Reply
transcript kind items = replies_from kind None items

-- in state `t`, before this command, every bound is 1; for command `k` nothing is asked, since its reply doesn't depend on the bounds
abbrev pub IsAtOne : ById → Command → Type 0
IsAtOne t (Bound slot_words k) = ⊤
IsAtOne t command = EveryBoundIsOne (paging_by_id t)

-- `IsAtOne` in state `t`, if the item is a command and the `heap` line has come; nothing is asked of other items
abbrev pub IsItemAtOne : Option ById → Item → Type 0
IsItemAtOne (Some t) (asks command) = IsAtOne t command
IsItemAtOne t item = ⊤

-- over the items, from state `t` on, every bound is 1 before each command except `k`
abbrev pub StaysAtOne : Kind → Option ById → List Item → Type 0
StaysAtOne kind t [] = ⊤
StaysAtOne kind t (item ∷ rest) = IsItemAtOne t item × StaysAtOne kind (after_at kind t item) rest

-- the item asks for no bound but 1, if it asks for one: a `heap` line or a `k`
abbrev pub AsksForOne : Item → Type 0
AsksForOne (starts p) = p.k ≡ 1
AsksForOne (asks (Bound slot_words k)) = k ≡ 1
AsksForOne item = ⊤

-- no item asks for a bound but 1
abbrev pub AskForOne : List Item → Type 0
AskForOne [] = ⊤
AskForOne (item ∷ rest) = AsksForOne item × AskForOne rest

-- the command asks for no address and no cost: it is none of `q`, `b`, `p` and `steps`
abbrev pub ShowsNoPlace : Command → Type 0
ShowsNoPlace (Place id) = ⊥
ShowsNoPlace (Block id i) = ⊥
ShowsNoPlace (Peek word) = ⊥
ShowsNoPlace Steps = ⊥
ShowsNoPlace command = ⊤

-- the item is not a command that asks for an address or a cost
abbrev pub AsksForNoAddress : Item → Type 0
AsksForNoAddress (asks command) = ShowsNoPlace command
AsksForNoAddress item = ⊤

-- none of the items asks for an address or a cost
abbrev pub ArePlaceless : List Item → Type 0
ArePlaceless [] = ⊤
ArePlaceless (item ∷ rest) = AsksForNoAddress item × ArePlaceless rest
