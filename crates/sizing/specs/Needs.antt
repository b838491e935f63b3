-- Why `pages_needed` computes no number.
use Rattle.std.specs.Prelude.{◌≡◌, ℕ, ◌<◌, ◌≤◌, IsSome, List, Some, None, length}
use Rattle.cf_base.specs.Settings.{profile_from, setting_fault}
use Rattle.quota_model.specs.Admission.{declared_in_all, first_large}
use Rattle.quota_model.specs.declared.results.Need.{Need}
use Rattle.sizing.specs.declared.by_numbers.NeedsFault.{NeedsFault}
use Rattle.sizing.specs.declared.by_numbers.NeedsFault.TheVariants.{Entries, Setting, Size, Proxies}

-- there are at most 64 entries, and the bytes of a page and k are in range
abbrev pub AreInRange : ℕ → ℕ → List Need → Type 0
AreInRange page_bytes k needs = (length needs ≤ 64) × (setting_fault 1 page_bytes k 65536 ≡ None)

-- The cause of each fault, of which the first is returned: there are more than 64 entries; a setting is out of range, with one page and 65,536 proxies; an
-- entry, even of count 0, has a length that doesn't fit a page with a header; more objects are declared than a heap may have proxies.
abbrev pub HasFault : ℕ → ℕ → List Need → NeedsFault → Type 0
HasFault page_bytes k needs Entries = 64 < length needs
HasFault page_bytes k needs (Setting e) = (length needs ≤ 64) × (setting_fault 1 page_bytes k 65536 ≡ Some e)
HasFault page_bytes k needs Size = AreInRange page_bytes k needs × IsSome (first_large (profile_from 1 page_bytes k 65536) needs)
HasFault page_bytes k needs Proxies =
    AreInRange page_bytes k needs × (first_large (profile_from 1 page_bytes k 65536) needs ≡ None) × (65536 < declared_in_all needs)

-- no fault has its cause
pub record HasNoFault (page_bytes k : ℕ) (needs : List Need) : Type 0 where
  pub range : AreInRange page_bytes k needs
  pub sizes : first_large (profile_from 1 page_bytes k 65536) needs ≡ None
  pub proxies : declared_in_all needs ≤ 65536
