-- For `read_page_bytes` and `read_proxies`, which read numbers of an image: if `Settings::check` refuses the numbers read so far, the last one breaks a rule;
-- if it accepts them, none does.
use Rattle.std.proofs.Common.{◌≡◌, ◌∙◌, ◌*◌, ℕ, Bool, true, false, Option, Some, None, refl, ap}
use Rattle.std.specs.Prelude.{◌&&◌, if◌then◌else◌, nat_le}
use Rattle.cf_base.specs.Limits.{is_page_bytes, is_within}
use Rattle.cf_base.specs.Settings.{setting_fault}
use Rattle.cf_base.specs.declared.settings.SettingFault.{SettingFault}
use Rattle.cf_base.specs.declared.settings.SettingFault.TheVariants.{PageBytes, Pages, Proxies, Region}
use Rattle.heap_image.specs.Decoded.{is_page_of}

-- the fault of settings, by the results of the tests of the pages, the bytes of a page, the proxies, and the region
fault_by : Bool → Bool → Bool → Bool → Option SettingFault
fault_by pages size proxies region =
    if pages then (if size then (if proxies then (if region then None else Some Region) else Some Proxies) else Some PageBytes) else Some Pages

fault_is : (pages page_bytes proxies : ℕ)
    → setting_fault pages page_bytes 1 proxies ≡ fault_by (is_within 1 4096 pages) (is_page_bytes page_bytes) (is_within 1 65536 proxies)
    (nat_le (pages * page_bytes) 67108864)
unfolding fault_by
fault_is pages page_bytes proxies = refl

none_passes : (b x n : Bool) → None ≡ fault_by true b x n → ((b && n) ≡ true) × (x ≡ true)
unfolding fault_by
none_passes true true true e = (refl, refl)
none_passes true true false e = absurd (let z = e in cc)
none_passes true false n e = absurd (let z = e in cc)
none_passes false x n e = absurd (let z = e in cc)

some_page : (b n : Bool) (f : SettingFault) → Some f ≡ fault_by true b true n → (b && n) ≡ false
unfolding fault_by
some_page true true f e = absurd (let z = e in cc)
some_page true false f e = refl
some_page false n f e = refl

some_proxies : (b x n : Bool) (f : SettingFault) → (b && n) ≡ true → Some f ≡ fault_by true b x n → x ≡ false
unfolding fault_by
some_proxies true true true f h e = absurd (let z = e in cc)
some_proxies true true false f h e = absurd (let z = h in cc)
some_proxies b false n f h e = refl
some_proxies false true n f h e = absurd (let z = h in cc)

module _ (pages page_bytes : ℕ) (good : is_within 1 4096 pages ≡ true) where
  fault_then : (proxies : ℕ) (o : Option SettingFault) → o ≡ setting_fault pages page_bytes 1 proxies
      → o ≡ fault_by true (is_page_bytes page_bytes) (is_within 1 65536 proxies) (nat_le (pages * page_bytes) 67108864)
  fault_then proxies o is = is ∙ fault_is pages page_bytes proxies
      ∙ ap (λ t. fault_by t (is_page_bytes page_bytes) (is_within 1 65536 proxies) (nat_le (pages * page_bytes) 67108864)) good

  pub settings_pass : (proxies : ℕ) → None ≡ setting_fault pages page_bytes 1 proxies
      → (is_page_of pages page_bytes ≡ true) × (is_within 1 65536 proxies ≡ true)
  settings_pass proxies is = none_passes _ _ _ (fault_then proxies None is)

  pub page_breaks : (f : SettingFault) → Some f ≡ setting_fault pages page_bytes 1 1 → is_page_of pages page_bytes ≡ false
  page_breaks f is = some_page _ _ f (fault_then 1 (Some f) is)

  pub proxies_break : (proxies : ℕ) (f : SettingFault) → is_page_of pages page_bytes ≡ true → Some f ≡ setting_fault pages page_bytes 1 proxies
      → is_within 1 65536 proxies ≡ false
  proxies_break proxies f page is = some_proxies _ _ _ f page (fault_then proxies (Some f) is)
