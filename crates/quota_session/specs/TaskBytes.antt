-- The bytes last written through each task's ids, computed from the lines of a script and their replies alone; and that each read prints them.
use Rattle.std.specs.Prelude.{⊤, ℕ, ◌&&◌, List, [], ◌∷◌, Option, Some, None, if◌then◌else◌, nat_eq}
use Rattle.run_model.specs.Terms.{asks, bad, Command, empty, Item, Objects, Reply, starts}
use Rattle.script_laws.specs.IdBytes.{IsReadOf, bytes_after, is_ok}
use Rattle.quota_session.specs.Transcript.{present_after}

-- the present task, and for each task the bytes of each id
pub record TaskBytes : Type 0 where
  pub present : ℕ
  pub bytes : ℕ → Objects

-- the record m after a command and its reply: `t` makes another task present; a command with the reply `ok` changes the bytes of the present task alone
abbrev pub bytes_with : TaskBytes → Command → Reply → TaskBytes
bytes_with m command reply = record {
  present = present_after m.present command;
  bytes = λ task. if nat_eq task m.present && is_ok reply then bytes_after command (m.bytes task) else m.bytes task;
}

-- the bytes of each task's ids after an item and its reply, if they were `shown` before it; None before the `heap` line
abbrev pub task_bytes_after : Option TaskBytes → Item → Reply → Option TaskBytes
task_bytes_after shown (starts p) reply = Some (record { present = 0; bytes = λ task. empty })
task_bytes_after None (asks command) reply = None
task_bytes_after (Some m) (asks command) reply = Some (bytes_with m command reply)
task_bytes_after shown (bad n) reply = shown

-- if the item is a read, its reply shows the bytes of the present task's id in m (`IsReadOf`); other items may have any reply
abbrev pub IsReadOfTasks : Option TaskBytes → Item → Reply → Type 0
IsReadOfTasks None item reply = ⊤
IsReadOfTasks (Some m) item reply = IsReadOf (Some (m.bytes m.present)) item reply

-- every read among the items has the reply that follows from the lines before it and their replies; `shown` holds the bytes of
-- each task's ids before the first item
abbrev pub AreReadsOfTasks : Option TaskBytes → List Item → List Reply → Type 0
AreReadsOfTasks shown [] replies = ⊤
AreReadsOfTasks shown (item ∷ rest) [] = ⊥
AreReadsOfTasks shown (item ∷ rest) (reply ∷ more) = IsReadOfTasks shown item reply × AreReadsOfTasks (task_bytes_after shown item reply) rest more
