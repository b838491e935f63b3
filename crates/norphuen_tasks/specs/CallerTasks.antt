-- What a caller in C has for a heap of tasks (`CallerHeap` of `c_base`; it is never lent), and how it is opened and closed.
use Rattle.std.specs.Prelude.{ℕ, ℤ, ⊤}
use Rattle.cf_base.specs.Settings.{profile_from, setting_fault}
use Rattle.c_base.specs.AtPlace.{IsOpenBy}
use Rattle.c_base.specs.CallerHeap.{CallerHeap, closed_with}
use Rattle.c_base.specs.Opening.{Opening}
use Rattle.norphuen_tasks.specs.Calls.{IsFreshTasksHeap}
use Rattle.norphuen_tasks.specs.Handles.{largest_of}
use Rattle.norphuen_tasks.specs.Needed.{IsTasksHeldBytes}
use Rattle.norphuen_tasks.specs.TasksState.{TasksState}

-- how a heap of tasks is opened, with any bound k; what memory it needs; and its largest handle
abbrev pub tasks_opening : Opening TasksState
tasks_opening = record { takes = λ _. ⊤; is_fresh = IsFreshTasksHeap; needs = IsTasksHeldBytes; last = λ h. largest_of h.handles }

-- the heap after it is closed, with its largest handle, on which the handles of the next heap depend
abbrev pub tasks_closed_by : CallerHeap TasksState → CallerHeap TasksState
tasks_closed_by = closed_with tasks_opening.last

-- an open with these settings: pages, bytes of a page, and proxies of each task
abbrev pub IsTasksOpenCall : CallerHeap TasksState → ℕ → ℕ → ℕ → ℤ → CallerHeap TasksState → Type 0
IsTasksOpenCall old pages page_bytes proxies code new =
    IsOpenBy (setting_fault pages page_bytes 1 proxies) (IsFreshTasksHeap (profile_from pages page_bytes 1 proxies)) old code new
