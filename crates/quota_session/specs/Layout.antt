-- The session that the stored records of sixteen tasks represent; which commands have a reply of one line, and which of these name no task. No public
-- clause cites this module.
use Rattle.run_model.specs.Terms.{Admit, Command, Need, Quota, Task, Walk}
use Rattle.quota_session.specs.QuotaRun.{TaskSession}
use Rattle.quota_session.specs.declared.records.Records.{Records}

-- the session that these stored records represent
abbrev pub tasks_session : Records → TaskSession
tasks_session r = record { ids = r.ids.items; needs = r.needs.items; present = r.present }

-- the command's reply is one line: true of every command but `walk`
abbrev pub IsNoWalk : Command → Type 0
IsNoWalk Walk = ⊥
IsNoWalk command = Unit {0}

-- the command is for the present task, names no task itself, and has a reply of one line
abbrev pub IsOfTask : Command → Type 0
IsOfTask Walk = ⊥
IsOfTask (Task task) = ⊥
IsOfTask (Quota task pages) = ⊥
IsOfTask (Need task bytes count) = ⊥
IsOfTask (Admit task) = ⊥
IsOfTask command = Unit {0}
