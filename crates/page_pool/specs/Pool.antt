-- What contracts see of `PagePool` (`Pool`): the number of pages, and the list of the free ones, each once, the next to be taken first; and what a take does.
use Rattle.std.specs.Prelude.{◌≡◌, ℕ, ◌<◌, Bool, true, false, List, [], ◌∷◌, Option, None, Some, nat_eq, refl, ⊤}
use Rattle.std.specs.List.{list_any}
use Rattle.std.specs.Coded.{Coded, code_by, coded×, coded_list, coded_ℕ}

-- how many pages there are, free or not, and the list of the free ones, the next to be taken first
pub record Pool : Type 0 where
  pub pages : ℕ
  pub free : List ℕ

-- the encoding of a `Pool` as the pair of its fields; a value that contracts see needs one
abbrev pub pool_code : Coded Pool
pool_code = code_by (ℕ × List ℕ) (coded× coded_ℕ (coded_list coded_ℕ)) (λ p. (p.pages, p.free)) (λ p. record { pages = p.0; free = p.1 }) (λ _. refl)

-- whether the page is in the list of free pages
abbrev pub is_in_pool : List ℕ → ℕ → Bool
is_in_pool free page = list_any (nat_eq page) free

-- no page is in the list twice
abbrev pub HasNoRepeats : List ℕ → Type 0
HasNoRepeats [] = ⊤
HasNoRepeats (page ∷ free) = (is_in_pool free page ≡ false) × HasNoRepeats free

-- no page is free twice, and each free page is one of the `pages` pages
pub record IsPool (p : Pool) : Type 0 where
  pub distinct : HasNoRepeats p.free
  pub below : (page : ℕ) → is_in_pool p.free page ≡ true → page < p.pages

-- what a take with this result does: it returns the first free page, which leaves the pool; or no page is free, and nothing changes
abbrev pub TakesFront : Pool → Option ℕ → Pool → Type 0
TakesFront old None new = (old.free ≡ []) × (new ≡ old)
TakesFront old (Some page) new = (old.free ≡ page ∷ new.free) × (new.pages ≡ old.pages)
