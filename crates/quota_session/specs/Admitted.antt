-- What the reply `yes` to `admit` promises a task: if its mallocs stay within the needs that it declared, none is refused. `admitted` is the state in which
-- `admit` was asked, `now` that before a later item.
use Rattle.std.specs.Prelude.{◌≡◌, ⊤, ◌⊎◌, ℕ, ◌≤◌, List, [], ◌∷◌, Option, Some, None, codes, replicate, slice_index}
use Rattle.run_model.specs.Terms.{asks, get, insert, Item, Malloc, Reply, said, starts}
use Rattle.quota_model.specs.Admission.{declared, live_of}
use Rattle.quota_session.specs.Own.{present_in}
use Rattle.quota_session.specs.Transcript.{TaskState, state_after_item}

-- the state after the items, from state `s` on; None before the `heap` line
abbrev pub states_in : Option TaskState → List Item → Option TaskState
states_in s [] = s
states_in s (item ∷ rest) = states_in (state_after_item s item) rest

-- A malloc of n bytes for the id stays within the needs of the task in `admitted`: the task's quota is at least its quota in `admitted`; and for each length m,
-- its live objects of m bytes, with the new one, are at most as many as the task had declared in `admitted`.
pub record IsMallocWithin (admitted now : TaskState) (task id n : ℕ) : Type 0 where
  pub quota : slice_index admitted.tasks.quotas task ≤ slice_index now.tasks.quotas task
  pub declared : (m : ℕ) → live_of (insert (now.tasks.objects task) id (replicate n 0)) m ≤ declared (admitted.needs task) m

-- if the item is a malloc while the task is present, for an id that isn't live, `IsMallocWithin` holds; a `heap` line isn't allowed, any other item is
abbrev pub StaysWithin : TaskState → ℕ → Option TaskState → Item → Type 0
StaysWithin admitted task (Some now) (asks (Malloc id n)) =
    now.present ≡ task → get (now.tasks.objects task) id ≡ None → IsMallocWithin admitted now task id n
StaysWithin admitted task now (starts p) = ⊥
StaysWithin admitted task now item = ⊤

-- `StaysWithin` holds of each item, in the state that the items before it leave
abbrev pub StayWithin : TaskState → ℕ → Option TaskState → List Item → Type 0
StayWithin admitted task now [] = ⊤
StayWithin admitted task now (item ∷ rest) = StaysWithin admitted task now item × StayWithin admitted task (state_after_item now item) rest

-- if the item is a malloc while the task is present, its reply is `ok` or `live`, but no refusal; other items may have any reply
abbrev pub IsServedItem : ℕ → ℕ → Item → Reply → Type 0
IsServedItem task present (asks (Malloc id n)) reply = present ≡ task → (reply ≡ said (codes "ok")) ⊎ (reply ≡ said (codes "live"))
IsServedItem task present item reply = ⊤

-- each item has a reply, and no malloc of the task is refused; `present` is the number of the present task before the first item
abbrev pub AreServed : ℕ → ℕ → List Item → List Reply → Type 0
AreServed task present [] replies = ⊤
AreServed task present (item ∷ rest) [] = ⊥
AreServed task present (item ∷ rest) (reply ∷ more) = IsServedItem task present item reply × AreServed task (present_in present item) rest more
