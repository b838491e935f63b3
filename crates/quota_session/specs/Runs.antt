-- For `tasks_are_isolated` and `a_task_has_a_heap_of_its_own`: in a list of calls and quota lines of many tasks (`TaskItem`), the items that concern one task,
-- also as a script of its own, and the replies to it.
use Rattle.std.specs.Prelude.{◌≡◌, ◌≢◌, ⊤, ℕ, Bool, true, false, ◌&&◌, List, [], ◌∷◌, Option, Some, None, if◌then◌else◌, nat_eq}
use Rattle.quota_model.specs.declared.results.QuotaFault.{QuotaFault}
use Rattle.run_model.specs.Terms.{asks, Item, Reply}
use Rattle.quota_session.specs.Tasks.{TaskItem, Tasks, after_item, calls, is_for_task, set_refusal, sets, task_reply}

-- the replies to the calls of one task, in order, if all items are done from the state s on
abbrev pub replies_to : ℕ → Tasks → List TaskItem → List Reply
replies_to task s [] = []
replies_to task s (calls u command ∷ rest) =
    if nat_eq u task then task_reply s task command ∷ replies_to task (after_item s (calls u command)) rest
    else replies_to task (after_item s (calls u command)) rest
replies_to task s (sets u pages ∷ rest) = replies_to task (after_item s (sets u pages)) rest

-- true if a quota line is accepted, and so has no refusal
abbrev pub is_accepted : Option QuotaFault → Bool
is_accepted None = true
is_accepted (Some e) = false

-- the items without the calls and quota lines of other tasks and without refused quota lines; s is the state before the first item
abbrev pub own_calls : ℕ → Tasks → List TaskItem → List TaskItem
own_calls task s [] = []
own_calls task s (calls u command ∷ rest) =
    if nat_eq u task then calls u command ∷ own_calls task (after_item s (calls u command)) rest
    else own_calls task (after_item s (calls u command)) rest
own_calls task s (sets u pages ∷ rest) =
    if nat_eq u task && is_accepted (set_refusal s u pages) then sets u pages ∷ own_calls task (after_item s (sets u pages)) rest
    else own_calls task (after_item s (sets u pages)) rest

-- no item sets the quota of the task
abbrev pub LeaveQuota : ℕ → List TaskItem → Type 0
LeaveQuota task [] = ⊤
LeaveQuota task (calls u command ∷ rest) = LeaveQuota task rest
LeaveQuota task (sets u pages ∷ rest) = (u ≢ task) × LeaveQuota task rest

-- each call of the task is a command on its objects (`is_for_task`)
abbrev pub AreTaskCommands : ℕ → List TaskItem → Type 0
AreTaskCommands task [] = ⊤
AreTaskCommands task (calls u command ∷ rest) = (u ≡ task → is_for_task command ≡ true) × AreTaskCommands task rest
AreTaskCommands task (sets u pages ∷ rest) = AreTaskCommands task rest

-- the commands of the task, as a script of its own
abbrev pub own_commands : ℕ → List TaskItem → List Item
own_commands task [] = []
own_commands task (calls u command ∷ rest) = if nat_eq u task then asks command ∷ own_commands task rest else own_commands task rest
own_commands task (sets u pages ∷ rest) = own_commands task rest
