-- The memory that opening a heap asks for, as a caller in C gets it.
use Rattle.std.specs.Prelude.{◌≡◌, ℕ, ℤ, pos, Option, Some, None}
use Rattle.std.specs.Int.{IsNextPowerOfTwo}
use Rattle.cf_base.specs.declared.needed.BytesNeeded.{BytesNeeded}
use Rattle.cf_base.specs.declared.settings.SettingFault.{SettingFault}
use Rattle.c_base.specs.Codes.{fault_code}
use Rattle.c_base.specs.declared.results.NphNeeded.{NphNeeded}

-- the memory b in the structure for a caller in C
abbrev pub shown_bytes : BytesNeeded → NphNeeded
shown_bytes b = record { total = b.total; largest = b.largest; blocks = b.blocks }

-- `needed` is the memory that `bytes` has for the count of a heap's handles, the least power of two that is not below `proxies`
abbrev pub IsOfHandles : ℕ → (ℕ → BytesNeeded) → BytesNeeded → Type 0
IsOfHandles proxies bytes needed = (count : ℕ) × IsNextPowerOfTwo proxies count × (needed ≡ bytes count)

-- A call for the memory of a heap. The first argument is the first setting out of range: its code is returned, and the caller's numbers stay. If it is `None`
-- the code is 0, and the numbers are those of `needed`, what the heap needs.
abbrev pub AreNeeded : Option SettingFault → (BytesNeeded → Type 0) → ℤ → NphNeeded → NphNeeded → Type 0
AreNeeded (Some e) needs code before after = (code ≡ fault_code e) × (after ≡ before)
AreNeeded None needs code before after = (code ≡ pos 0) × (needed : BytesNeeded) × needs needed × (after ≡ shown_bytes needed)
