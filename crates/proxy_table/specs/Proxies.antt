-- What contracts see of a proxy table: a finite map from the live numbers, all below a limit, to addresses, and the free numbers in the order of their use;
-- and both after a number gets an address or is released.
use Rattle.std.specs.Prelude.{◌≡◌, ℕ, ◌+◌, ◌<◌, ◌≤◌, List, ◌∷◌, None, Some, length, nat_eq, refl}
use Rattle.std.specs.List.{Contains, IsDistinct, range_with_len}
use Rattle.std.specs.Ordering.{nat_cmp}
use Rattle.std.specs.FinMap as map
use Rattle.std.specs.Coded.{Coded, code_by, coded×, coded_list, coded_ℕ}
use Rattle.cf_base.specs.Lists.{without_number}

-- how many numbers there are (`limit`), the address of each live one in words, and the free ones, the next to be used first
pub record Proxies : Type 0 where
  pub limit : ℕ
  pub places : map.FinMap nat_cmp ℕ
  pub free : List ℕ

-- `limit` numbers, none of them live; number 0 is used first
abbrev pub no_proxies : ℕ → Proxies
no_proxies limit = record { limit = limit; places = map.empty; free = range_with_len 0 limit }

-- the proxies after the number got the address `place`: it is live, and no longer free
abbrev pub with_place : Proxies → ℕ → ℕ → Proxies
with_place proxies number place =
    record proxies { places = map.insert proxies.places number place; free = without_number number proxies.free }

-- the proxies after the number was released: it is no longer live, and is the first free one
abbrev pub without_place : Proxies → ℕ → Proxies
without_place proxies number = record proxies { places = map.remove proxies.places number; free = number ∷ proxies.free }

-- all live and free numbers are below the limit; each number below it is either live or free, and none is free twice
pub record AreBelowLimit (proxies : Proxies) : Type 0 where
  pub below : (number place : ℕ) → map.get proxies.places number ≡ Some place → number < proxies.limit
  pub few : map.len proxies.places ≤ proxies.limit
  pub free_below : (number : ℕ) → Contains proxies.free number → number < proxies.limit
  pub not_live : (number : ℕ) → Contains proxies.free number → map.get proxies.places number ≡ None
  pub once : IsDistinct nat_eq proxies.free
  pub counted : length proxies.free + map.len proxies.places ≡ proxies.limit

-- the encoding of `Proxies` as the tuple of their fields; a value that contracts see needs one
abbrev pub proxies_code : Coded Proxies
proxies_code =
    code_by (ℕ × (map.FinMap nat_cmp ℕ × List ℕ)) (coded× coded_ℕ (coded× (map.code coded_ℕ coded_ℕ) (coded_list coded_ℕ)))
    (λ p. (p.limit, (p.places, p.free))) (λ p. record { limit = p.0; places = p.1.0; free = p.1.1 }) (λ _. refl)
