-- The codes that a call on a heap of tasks returns to C, beside those of `c_base`.
use Rattle.std.specs.Prelude.{ℤ, pos, Result, Ok, Err}
use Rattle.quota_model.specs.declared.results.Admission.{Admission}
use Rattle.quota_model.specs.declared.results.Admission.TheVariants.{Yes, No, Size, Proxies}
use Rattle.quota_model.specs.declared.results.QuotaFault.{QuotaFault}
use Rattle.quota_model.specs.declared.results.QuotaFault.TheVariants.{Sum, Used}

-- the code of a new quota with this result: 11 (`PAGES`) if the quotas would sum to too many pages, 3 (`SPACE`) if the task uses more
abbrev pub quota_code : Result (Unit {0}) QuotaFault → ℤ
quota_code (Ok u) = pos 0
quota_code (Err Sum) = pos 11
quota_code (Err Used) = pos 3

-- the code of a result of `admit` of `quota_model`: 0 if the quota is enough; 1 (`SIZE`) if the length of a need, even of count 0,
-- doesn't fit a page with a header; 14 (`PROXIES`) if more objects are declared than a task has proxies; else 3 (`SPACE`)
abbrev pub admission_code : Admission → ℤ
admission_code Yes = pos 0
admission_code (No nth) = pos 3
admission_code (Size entry) = pos 1
admission_code Proxies = pos 14
