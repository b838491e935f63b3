-- The objects of all tasks in one map, by key, and those of one task in it. The key of an object is its task times 65,536, plus its number in that task.
use Rattle.std.specs.Prelude.{ℕ, ◌+◌, ◌*◌, ◌/◌, ◌%◌, filter, map, nat_eq}
use Rattle.std.specs.Ordering.{nat_cmp}
use Rattle.std.specs.FinMap.{entries, from_entries}
use Rattle.page_model.specs.Held.{Held, Placed}

-- the key of object h of a task; h is below 65,536
abbrev pub key_of : ℕ → ℕ → ℕ
key_of task h = task * 65536 + h

-- the task of the object with this key
abbrev pub task_of : ℕ → ℕ
task_of key = key / 65536

-- the number, in its task, of the object with this key
abbrev pub number_in_task : ℕ → ℕ
number_in_task key = key % 65536

-- the objects of one task, by their numbers in that task; m has the objects of all tasks by their keys
unfoldable pub objects_of_task : Held → ℕ → Held
objects_of_task m task = from_entries {R = nat_cmp} (map (λ (e : ℕ × Placed). (number_in_task e.0, e.1))
    (filter (λ (e : ℕ × Placed). nat_eq (task_of e.0) task) (entries m)))
