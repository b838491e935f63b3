-- Why a task's malloc is refused, and why a new quota for a task is refused; and the pages and classes as each task sees them.
use Rattle.std.specs.Prelude.{ℕ, List, Option, Some, None, if◌then◌else◌, nat_eq, nat_lt, slice_set, sum}
use Rattle.std.specs.FinMap.{len}
use Rattle.cf_base.specs.Classes.{need}
use Rattle.cf_base.specs.Settings.{Profile}
use Rattle.cf_base.specs.declared.results.Refusal.{Refusal}
use Rattle.cf_base.specs.declared.results.Refusal.TheVariants.{Size, Proxy, Space}
use Rattle.cf_base.specs.declared.kind.Layout.TheVariants.{Words}
use Rattle.page_model.specs.Arrangement.{pages_needed, pages_needed_with}
use Rattle.page_model.specs.Held.{Objects}
use Rattle.page_model.specs.Paging.{Paging, first_bounds, paging_of}
use Rattle.quota_model.specs.declared.results.QuotaFault.{QuotaFault}
use Rattle.quota_model.specs.declared.results.QuotaFault.TheVariants.{Sum, Used}

-- the pages and classes of the region as each task sees them: every class has bound 1, whatever bound the settings have
abbrev pub task_paging : Profile → Paging
task_paging s = paging_of s Words (first_bounds (record s { k = 1 }) Words)

-- Why a malloc of n bytes is refused to a task with these objects and this quota of pages; none if it isn't. The object with its header is larger
-- than a page; else all proxies are in use; else the task's objects with the new one need more pages than its quota.
abbrev pub malloc_refusal : Profile → ℕ → Objects → ℕ → Option Refusal
malloc_refusal s quota o n =
    if nat_lt s.page_words (need n) then Some Size
    else (if nat_eq (len o) s.proxies then Some Proxy
    else (if nat_lt quota (pages_needed_with (task_paging s) o n) then Some Space else None))

-- Why n pages are refused as the new quota of a task with these objects; none if they aren't. The quotas would sum to more pages than the region has; else
-- the task's objects need more than n pages.
abbrev pub quota_refusal : Profile → List ℕ → ℕ → ℕ → Objects → Option QuotaFault
quota_refusal s quotas task n o =
    if nat_lt s.pages (sum (slice_set quotas task n)) then Some Sum
    else (if nat_lt n (pages_needed (task_paging s) o) then Some Used else None)
