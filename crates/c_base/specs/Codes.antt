-- The codes that a call returns to C, by the result of the manager's call. `codes.rt` gives each number a name.
use Rattle.std.specs.Prelude.{ℤ, pos, Result, Ok, Err}
use Rattle.cf_base.specs.declared.results.Handle.{Handle}
use Rattle.cf_base.specs.declared.results.NotLive.{NotLive}
use Rattle.cf_base.specs.declared.results.Refusal.{Refusal}
use Rattle.cf_base.specs.declared.results.Refusal.TheVariants as refusal
use Rattle.cf_base.specs.declared.results.AccessFault.{AccessFault}
use Rattle.cf_base.specs.declared.results.AccessFault.TheVariants as access
use Rattle.cf_base.specs.declared.results.Resized.{Resized}
use Rattle.cf_base.specs.declared.results.ResizeFault.{ResizeFault}
use Rattle.cf_base.specs.declared.results.ResizeFault.TheVariants as resize
use Rattle.cf_base.specs.declared.settings.SettingFault.{SettingFault}
use Rattle.cf_base.specs.declared.settings.SettingFault.TheVariants.{Pages, PageBytes, Bound, Proxies, Region}

-- the code of a malloc with this result
abbrev pub malloc_code : Result Handle Refusal → ℤ
malloc_code (Ok h) = pos 0
malloc_code (Err refusal.Size) = pos 1
malloc_code (Err refusal.Proxy) = pos 2
malloc_code (Err refusal.Space) = pos 3

-- the code of a free with this result
abbrev pub free_code : {T : Type 0} → Result T NotLive → ℤ
free_code (Ok u) = pos 0
free_code (Err e) = pos 4

-- the code of a read or a write with this result
abbrev pub access_code : Result (Unit {0}) AccessFault → ℤ
access_code (Ok u) = pos 0
access_code (Err access.Unknown) = pos 4
access_code (Err access.Range) = pos 5

-- the code of a resize with this result
abbrev pub resize_code : Result Resized ResizeFault → ℤ
resize_code (Ok done) = pos 0
resize_code (Err resize.Unknown) = pos 4
resize_code (Err resize.Kind) = pos 6
resize_code (Err resize.Size) = pos 1
resize_code (Err resize.Space) = pos 3

-- the code of a call that is refused because this setting is out of range
abbrev pub fault_code : SettingFault → ℤ
fault_code Pages = pos 11
fault_code PageBytes = pos 12
fault_code Bound = pos 13
fault_code Proxies = pos 14
fault_code Region = pos 15
