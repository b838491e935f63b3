-- Admission: the objects that a task declares before it runs, and whether a quota is enough for them. t is a task's share, the settings and its quota; o is the
-- map of its objects, from numbers to bytes.
use Rattle.std.specs.Prelude.{◌≡◌, ⊤, ℕ, Bool, true, false, ◌+◌, ◌<◌, ◌≤◌, ◌⊎◌, List, [], ◌∷◌, ◌++◌, Option, Some, None, IsSome, count_by, if◌then◌else◌}
use Rattle.std.specs.Prelude.{length, nat_eq, nat_lt}
use Rattle.std.specs.Prelude.{position, replicate, sum_by}
use Rattle.std.specs.FinMap.{empty, get, insert, remove, values}
use Rattle.cf_base.specs.Classes.{need}
use Rattle.cf_base.specs.Settings.{Profile}
use Rattle.cf_base.specs.declared.results.Refusal.{Refusal}
use Rattle.cf_base.specs.declared.results.Refusal.TheVariants as refusal
use Rattle.page_model.specs.Arrangement.{pages_for}
use Rattle.page_model.specs.Held.{Objects}
use Rattle.page_model.specs.Paging.{Paging, class_for}
use Rattle.quota_model.specs.Refusals.{malloc_refusal}
use Rattle.quota_model.specs.declared.results.Admission.{Admission}
use Rattle.quota_model.specs.declared.results.Admission.TheVariants.{Yes, No, Size, Proxies}
use Rattle.quota_model.specs.declared.results.Need.{Need}

-- a task's share of the region: the settings of the region, and the task's quota in pages
pub record Share : Type 0 where
  pub profile : Profile
  pub quota : ℕ

-- a call of a task: a malloc of n bytes, whose object gets number h if it isn't refused, or a free of object h
pub data Call : Type 0 where
  asks : (h n : ℕ) → Call
  frees : (h : ℕ) → Call

-- the objects o after a malloc of n bytes: unchanged if there is a cause of refusal, else with an object of n zeros under number h
abbrev pub granted : Option Refusal → Objects → ℕ → ℕ → Objects
granted (Some e) o h n = o
granted None o h n = insert o h (replicate n 0)

-- the objects o of a task after a call; a malloc that the task's quota or the settings refuse changes nothing
abbrev pub objects_left : Share → Objects → Call → Objects
objects_left t o (asks h n) = granted (malloc_refusal t.profile t.quota o n) o h n
objects_left t o (frees h) = remove o h

-- the call is a malloc that is refused for space (`Space`)
abbrev pub IsRefusedForSpace : Share → Objects → Call → Type 0
IsRefusedForSpace t o (asks h n) = malloc_refusal t.profile t.quota o n ≡ Some refusal.Space
IsRefusedForSpace t o (frees h) = ⊥

-- if the calls are made one after the other, beginning with the objects o, one of them is a malloc that is refused for space
abbrev pub MeetsRefusalForSpace : Share → Objects → List Call → Type 0
MeetsRefusalForSpace t o [] = ⊥
MeetsRefusalForSpace t o (call ∷ rest) = IsRefusedForSpace t o call ⊎ MeetsRefusalForSpace t (objects_left t o call) rest

-- how many objects of n bytes the entries declare: the counts of all entries for this length, added up
abbrev pub declared : List Need → ℕ → ℕ
declared needs n = sum_by (λ (e : Need). if nat_eq e.bytes n then e.count else 0) needs

-- how many of the objects o have n bytes
abbrev pub live_of : Objects → ℕ → ℕ
live_of o n = count_by (λ v. nat_eq (length v) n) (values o)

-- A call is within what is declared: a malloc of n bytes uses a free number, and with its object at most the declared number of objects of n bytes are
-- live; a free is of a live object.
abbrev pub IsWithin : Share → List Need → Objects → Call → Type 0
IsWithin t needs o (asks h n) = (get o h ≡ None) × (h < t.profile.proxies) × (live_of o n + 1 ≤ declared needs n)
IsWithin t needs o (frees h) = IsSome (get o h)

-- each of the calls, made one after the other, beginning with the objects o, is within what is declared
abbrev pub CallsAreWithin : Share → List Need → Objects → List Call → Type 0
CallsAreWithin t needs o [] = ⊤
CallsAreWithin t needs o (call ∷ rest) = IsWithin t needs o call × CallsAreWithin t needs (objects_left t o call) rest

-- The quota is enough for the declared objects: no list of calls within what is declared, begun without objects, has a malloc that is refused for space.
abbrev pub IsEnough : Share → List Need → Type 0
IsEnough t needs = (calls : List Call) → CallsAreWithin t needs empty calls → ¬ MeetsRefusalForSpace t empty calls

-- the lengths of all declared objects, in bytes: entry by entry, each length as often as its count
abbrev pub in_order : List Need → List ℕ
in_order [] = []
in_order (e ∷ es) = replicate e.count e.bytes ++ in_order es

-- the mallocs of objects of these lengths, one after the other, under the numbers k, k + 1 and so on
abbrev pub mallocs : ℕ → List ℕ → List Call
mallocs k [] = []
mallocs k (n ∷ ns) = asks k n ∷ mallocs (k + 1) ns

-- whether a malloc with this cause of refusal, or with none, was refused for space
abbrev pub is_short : Option Refusal → Bool
is_short None = false
is_short (Some refusal.Size) = false
is_short (Some refusal.Proxy) = false
is_short (Some refusal.Space) = true

-- The number of the first malloc that is refused for space, if one is, when objects of these lengths are allocated one after the other, beginning with the
-- objects o, under the numbers k, k + 1 and so on. The mallocs are counted from k + 1 on.
abbrev pub first_refused_for_space : Share → Objects → ℕ → List ℕ → Option ℕ
first_refused_for_space t o k [] = None
first_refused_for_space t o k (n ∷ ns) =
    if is_short (malloc_refusal t.profile t.quota o n) then Some (k + 1)
    else first_refused_for_space t (granted (malloc_refusal t.profile t.quota o n) o k n) (k + 1) ns

-- how many of these lengths are of class c
abbrev pub count_of_class : Paging → List ℕ → ℕ → ℕ
count_of_class p ns c = count_by (λ n. nat_eq (class_for p n) c) ns

-- the pages that objects of these lengths need: for each class the number of objects is divided by the slots of a page and rounded up, and these are summed
abbrev pub pages_needed_by : Paging → List ℕ → ℕ
pages_needed_by p ns = pages_for p (count_of_class p ns)

-- the index, from 0 on, of the first entry, even of count 0, whose length doesn't fit a page with a header of 8 bytes, if there is one
abbrev pub first_large : Profile → List Need → Option ℕ
first_large s needs = position (λ (e : Need). nat_lt s.page_words (need e.bytes)) needs

-- the number of objects, of any length, that all entries declare together
abbrev pub declared_in_all : List Need → ℕ
declared_in_all needs = sum_by (λ (e : Need). e.count) needs

-- the length of each entry, even of count 0, fits a page with a header, and the proxies are enough for all declared objects
pub record CanBeAsked (s : Profile) (needs : List Need) : Type 0 where
  pub none_large : first_large s needs ≡ None
  pub few : declared_in_all needs ≤ s.proxies

-- What each result of the admission test means. `Size`: this entry is the first, even of count 0, whose length doesn't fit a page with a header of 8 bytes.
-- `Proxies`: there is no such entry, but more objects are declared than there are proxies. Else `Yes`: the quota is enough; or `No`: if the declared objects
-- are allocated in order, malloc number `nth`, counted from 1, is the first that is refused for space.
abbrev pub IsAdmission : Share → List Need → Admission → Type 0
IsAdmission t needs (Size entry) = first_large t.profile needs ≡ Some entry
IsAdmission t needs Proxies = (first_large t.profile needs ≡ None) × (t.profile.proxies < declared_in_all needs)
IsAdmission t needs Yes = CanBeAsked t.profile needs × IsEnough t needs
IsAdmission t needs (No nth) = CanBeAsked t.profile needs × (first_refused_for_space t empty 0 (in_order needs) ≡ Some nth)
