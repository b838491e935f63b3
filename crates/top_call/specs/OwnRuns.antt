-- A run of many managers side by side as separate runs, one for each manager, whose replies are interleaved, whole or up to a cut reply; what is claimed of
-- these replies; and the managers after the runs. A list of kinds has the kind of each manager.
use Rattle.std.specs.Prelude.{◌≡◌, ◌++◌, ◌⊎◌, ⊤, ℕ, List, [], ◌∷◌, Option, Some, None, map}
use Rattle.run_model.specs.Terms.{asks, bad, bad_line, Command, HeapState, Item, Kind, led, Reply, RunState, said, starts}
use Rattle.run_model.specs.Runs.{Run}
use Rattle.script_laws.specs.Headline.{MeetsHeadline}
use Rattle.top_call.specs.SideBySide.{named_lines}

-- the reply to an item if there are no managers: the report of a bad line, else nothing
abbrev pub bare_reply : Item → Reply
bare_reply (starts p) = []
bare_reply (asks c) = []
bare_reply (bad n) = said (bad_line n)

-- One manager's reply to an item, `own`, each line after the name of its kind, then the replies of the others. A bad line is reported once, without a name.
abbrev pub interleaved_reply : Kind → Item → Reply → Reply → Reply
interleaved_reply kind (starts p) own others = named_lines kind own ++ others
interleaved_reply kind (asks c) own others = named_lines kind own ++ others
interleaved_reply kind (bad n) own others = others

-- The replies of one manager of this kind, `owns`, and those of the others, interleaved item by item: one reply of each to each item.
abbrev pub interleaved_replies : Kind → List Item → List Reply → List Reply → List Reply
interleaved_replies kind [] owns others = []
interleaved_replies kind (item ∷ items) [] others = []
interleaved_replies kind (item ∷ items) (own ∷ owns) [] = []
interleaved_replies kind (item ∷ items) (own ∷ owns) (other ∷ others) = interleaved_reply kind item own other ∷ interleaved_replies kind items owns others

-- The states of all managers are that of one, `own`, and then those of the others. Before the `heap` line none has a state (None).
abbrev pub JoinStates : Option RunState → Option (List RunState) → Option (List RunState) → Type 0
JoinStates None None all = all ≡ None
JoinStates None (Some others) all = ⊥
JoinStates (Some own) None all = ⊥
JoinStates (Some own) (Some others) all = all ≡ Some (own ∷ others)

-- a run without managers: its state, if there is one, is the empty list
abbrev pub HasNoManagers : Option (List RunState) → Type 0
HasNoManagers None = ⊤
HasNoManagers (Some all) = all ≡ []

-- Each manager has a run of its own over the items, with the replies `owns`, and `replies` interleaves the replies of all these runs. `end` lists their last
-- states; None before the `heap` line.
abbrev pub OwnRuns : List Kind → List Item → List Reply → Option (List RunState) → Type 0
OwnRuns [] items replies end = (replies ≡ map bare_reply items) × HasNoManagers end
OwnRuns (kind ∷ kinds) items replies end = (owns : List Reply) × (others : List Reply) × (own : Option RunState) × (rest : Option (List RunState))
    × Run kind None items owns own × OwnRuns kinds items others rest × (replies ≡ interleaved_replies kind items owns others) × JoinStates own rest end

-- `replies` interleaves a list of replies to the items for each kind, and each list meets the claim of mode `run` for its kind (`MeetsHeadline`).
abbrev pub MeetHeadlines : List Kind → List Item → List Reply → Type 0
MeetHeadlines [] items replies = replies ≡ map bare_reply items
MeetHeadlines (kind ∷ kinds) items replies = (owns : List Reply) × (others : List Reply)
    × MeetsHeadline kind items owns × MeetHeadlines kinds items others × (replies ≡ interleaved_replies kind items owns others)

-- Each manager has a run over the items `before`, and `replies` interleaves their replies; then only the prefix `front` of the reply to the command c was
-- written. The managers up to the one whose reply was cut have done c, the later ones have not; `news` are the states of all.
abbrev pub OwnRunsUpTo : List Kind → List Item → Command → List Reply → List ℕ → List RunState → Type 0
OwnRunsUpTo [] before c replies front news = ⊥
OwnRunsUpTo (kind ∷ kinds) before c replies front news = (owns : List Reply) × (others : List Reply) × (own : Reply) × (new : RunState)
    × (rest : List RunState)
    × Run kind None (before ++ asks c ∷ []) (owns ++ own ∷ []) (Some new) × (replies ≡ interleaved_replies kind before owns others) × (news ≡ new ∷ rest)
    × (((lost : List ℕ) × (led [] (named_lines kind own) ≡ front ++ lost) × OwnRuns kinds before others (Some rest))
    ⊎ ((more : List ℕ) × (front ≡ led [] (named_lines kind own) ++ more) × OwnRunsUpTo kinds before c others more rest))

-- Each manager answered the items `before`, and `replies` interleaves their replies; then only the prefix `front` of the reply to the next item was written.
-- `end` lists the states of all managers after that.
abbrev pub OwnRunsInPart : List Kind → List Item → Item → List Reply → List ℕ → Option (List RunState) → Type 0
OwnRunsInPart kinds before (starts p) replies front end = (reply : Reply) × (lost : List ℕ)
    × OwnRuns kinds (before ++ starts p ∷ []) (replies ++ reply ∷ []) end × (led [] reply ≡ front ++ lost)
OwnRunsInPart kinds before (asks c) replies front end = (news : List RunState) × OwnRunsUpTo kinds before c replies front news × (end ≡ Some news)
OwnRunsInPart kinds before (bad n) replies front end = (lost : List ℕ) × OwnRuns kinds before replies end × (led [] (said (bad_line n)) ≡ front ++ lost)

-- `news`, the managers after a script, are in the last states of their runs; they are `olds`, those before the script, if no run began
abbrev pub EachEndsAt : List HeapState → Option (List RunState) → List HeapState → Type 0
EachEndsAt olds None news = news ≡ olds
EachEndsAt olds (Some runs) news = news ≡ map (λ r. r.heap) runs
