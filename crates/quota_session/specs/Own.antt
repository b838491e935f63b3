-- For isolation in a script: the lines that concern task number `task`, and the replies to its commands. `present` is the number of the present task, which the
-- last `t` named, 0 before the first.
use Rattle.std.specs.Prelude.{ℕ, Bool, false, ◌&&◌, List, [], ◌∷◌, Option, Some, if◌then◌else◌, nat_eq, not}
use Rattle.run_model.specs.Terms.{Admit, asks, bad, Command, Item, Need, Quota, Reply, starts, Task}
use Rattle.quota_session.specs.Runs.{is_accepted}
use Rattle.quota_session.specs.Tasks.{set_refusal}
use Rattle.quota_session.specs.Transcript.{TaskState, present_after, state_after_item}

-- true if the command is the task's own: a `need` or `admit` that names the task (`u` is the task named), or a call (such as `m` or `r`) while the task is
-- present
abbrev pub is_own : ℕ → ℕ → Command → Bool
is_own task present (Task u) = false
is_own task present (Quota u pages) = false
is_own task present (Need u bytes count) = nat_eq u task
is_own task present (Admit u) = nat_eq u task
is_own task present command = nat_eq present task

-- `is_own` of an item; false for a `heap` line and for a bad line
abbrev pub is_own_item : ℕ → ℕ → Item → Bool
is_own_item task present (asks command) = is_own task present command
is_own_item task present item = false

-- the number of the present task after an item, if it was `present` before it; a `heap` line makes task 0 present
abbrev pub present_in : ℕ → Item → ℕ
present_in present (starts p) = 0
present_in present (asks command) = present_after present command
present_in present (bad n) = present

-- the replies to the task's own commands, in order; `present` is the number of the present task before the first item
abbrev pub replies_of : ℕ → ℕ → List Item → List Reply → List Reply
replies_of task present [] replies = []
replies_of task present (item ∷ rest) [] = []
replies_of task present (item ∷ rest) (reply ∷ more) =
    if is_own_item task present item then reply ∷ replies_of task (present_in present item) rest more
    else replies_of task (present_in present item) rest more

-- true if a command is removed from the task's own script: it is a call of another task, names another task, or is a quota line that is refused
abbrev pub is_left_out : ℕ → TaskState → Command → Bool
is_left_out task s (Task u) = not (nat_eq u task)
is_left_out task s (Quota u pages) = not (nat_eq u task && is_accepted (set_refusal s.tasks u pages))
is_left_out task s (Need u bytes count) = not (nat_eq u task)
is_left_out task s (Admit u) = not (nat_eq u task)
is_left_out task s command = not (nat_eq s.present task)

-- `is_left_out` of an item; false for a `heap` line, a bad line, and each command before the `heap` line
abbrev pub is_left_out_in : ℕ → Option TaskState → Item → Bool
is_left_out_in task (Some s) (asks command) = is_left_out task s command
is_left_out_in task s item = false

-- the task's own script: the items without the lines of other tasks and without refused quota lines; s is the state before the first item
abbrev pub own_items : ℕ → Option TaskState → List Item → List Item
own_items task s [] = []
own_items task s (item ∷ rest) = if is_left_out_in task s item then own_items task (state_after_item s item) rest else item ∷ own_items task (state_after_item s item) rest
