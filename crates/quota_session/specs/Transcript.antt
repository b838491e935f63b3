-- The claim of every script in mode `quota` (`MeetsTasks`): each reply is a function of its line and the lines before it. The definitions compute the reply to
-- each line and the state after it.
use Rattle.std.specs.Prelude.{◌≡◌, ℕ, ◌++◌, Bool, true, false, List, [], ◌∷◌, Option, Some, None, codes, if◌then◌else◌, length, nat_eq, nat_lt, slice_index}
use Rattle.run_model.specs.Terms.{asks, at_bound_one, bad, bad_line, Command, empty, Item, Profile, Reply, said, starts, with_number}
use Rattle.quota_model.specs.Admission.{Share, declared_in_all, first_large, first_refused_for_space, in_order}
use Rattle.quota_model.specs.declared.results.Admission.{Admission}
use Rattle.quota_model.specs.declared.results.Admission.TheVariants.{Yes, No, Size, Proxies}
use Rattle.quota_model.specs.declared.results.Need.{Need}
use Rattle.script_reader.specs.declared.command.Command.TheVariants as command
use Rattle.quota_session.specs.Tasks.{TaskItem, Tasks, after_item, calls, no_tasks, quota_text, set_refusal, sets, task_reply}

-- the state after some lines of a script: the present task; and for each task its quota, its objects by id, and the entries that it declared with `need`
pub record TaskState : Type 0 where
  pub present : ℕ
  pub tasks : Tasks
  pub needs : ℕ → List Need

-- the state after the `heap` line: task 0 is present, all quotas are 0, no object is live, nothing is declared; each class has the bound 1, whatever bound the
-- line has
abbrev pub first_state : Profile → TaskState
first_state p = record { present = 0; tasks = no_tasks (at_bound_one p); needs = λ task. [] }

-- the reply to `need`: `full` if the task has declared 64 entries, else `ok`
abbrev pub need_text : List Need → List ℕ
need_text needs = if nat_lt (length needs) 64 then codes "ok" else codes "full"

-- the entries with `entry` added at the end; unchanged if there are 64 already
abbrev pub one_need_more : List Need → Need → List Need
one_need_more needs entry = if nat_lt (length needs) 64 then needs ++ entry ∷ [] else needs

-- the reply to `admit`, by the result of its tests
abbrev pub admission_text : Admission → List ℕ
admission_text (Size entry) = codes "size"
admission_text Proxies = codes "proxies"
admission_text (No nth) = with_number (codes "no ") nth
admission_text Yes = codes "yes"

-- The result of `admit`, by the results of three tests. It is `Size` if there is an `entry`, the first, even of count 0, whose length doesn't fit a page with a
-- header. Else it is `Proxies` if `exceeds`: more objects are declared than there are proxies. Else it is `No` if one of the declared mallocs, made in order, is refused
-- for space; `short` is the number of the first such malloc, counted from 1. Else it is `Yes`.
abbrev pub admission_by : Option ℕ → Bool → Option ℕ → Admission
admission_by (Some entry) exceeds short = Size entry
admission_by None true short = Proxies
admission_by None false (Some nth) = No nth
admission_by None false None = Yes

-- the result of `admit` for a task with the share `t` (settings and quota) that declared these needs
abbrev pub admission : Share → List Need → Admission
admission t needs =
    admission_by (first_large t.profile needs) (nat_lt t.profile.proxies (declared_in_all needs)) (first_refused_for_space t empty 0 (in_order needs))

-- the share of a task: the settings of the heap, and the task's quota in pages
abbrev pub share_of : Tasks → ℕ → Share
share_of s task = record { profile = s.profile; quota = slice_index s.quotas task }

-- the reply to a command in state `s`
abbrev pub command_reply : TaskState → Command → Reply
command_reply s (command.Task task) = said (codes "ok")
command_reply s (command.Quota task pages) = said (quota_text (set_refusal s.tasks task pages))
command_reply s (command.Need task bytes count) = said (need_text (s.needs task))
command_reply s (command.Admit task) = said (admission_text (admission (share_of s.tasks task) (s.needs task)))
command_reply s command = task_reply s.tasks s.present command

-- the command as a call of the present task, whose number is `present`, or as a quota line; None for `t`, `need` and `admit`, which change no object and no quota
abbrev pub item_of : ℕ → Command → Option TaskItem
item_of present (command.Task task) = None
item_of present (command.Quota task pages) = Some (sets task pages)
item_of present (command.Need task bytes count) = None
item_of present (command.Admit task) = None
item_of present command = Some (calls present command)

-- the tasks `s` after a call or a quota line; unchanged if there is neither
abbrev pub after_if : Tasks → Option TaskItem → Tasks
after_if s None = s
after_if s (Some item) = after_item s item

-- the number of the present task after a command, if it was `present` before it: `t` sets it, and no other command changes it
abbrev pub present_after : ℕ → Command → ℕ
present_after present (command.Task task) = task
present_after present command = present

-- the entries that task `u` has declared after a command
abbrev pub needs_after : (ℕ → List Need) → Command → ℕ → List Need
needs_after needs (command.Need task bytes count) u =
    if nat_eq u task then one_need_more (needs u) (record { bytes = bytes; count = count }) else needs u
needs_after needs command u = needs u

-- the state after a command in state `s`
abbrev pub state_after : TaskState → Command → TaskState
state_after s command = record {
  present = present_after s.present command;
  tasks = after_if s.tasks (item_of s.present command);
  needs = needs_after s.needs command;
}

-- the reply to an item in state `s`; before the `heap` line a command has a reply without lines
abbrev pub reply_to_item : Option TaskState → Item → Reply
reply_to_item s (starts p) = said (codes "ok")
reply_to_item None (asks command) = []
reply_to_item (Some s) (asks command) = command_reply s command
reply_to_item s (bad n) = said (bad_line n)

-- the state after an item in state `s`; None before the `heap` line
abbrev pub state_after_item : Option TaskState → Item → Option TaskState
state_after_item s (starts p) = Some (first_state p)
state_after_item None (asks command) = None
state_after_item (Some s) (asks command) = Some (state_after s command)
state_after_item s (bad n) = s

-- the replies to the items, one each, from state `s` on
abbrev pub task_replies : Option TaskState → List Item → List Reply
task_replies s [] = []
task_replies s (item ∷ rest) = reply_to_item s item ∷ task_replies (state_after_item s item) rest

-- the claim of mode `quota`: the replies to a script are those of `task_replies`
abbrev pub MeetsTasks : List Item → List Reply → Type 0
MeetsTasks items replies = replies ≡ task_replies None items
