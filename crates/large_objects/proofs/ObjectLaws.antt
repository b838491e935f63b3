-- For the laws of long objects: the causes of refusals exclude one another and success, the pages in use follow from the objects, and a write is read back and
-- changes no other object.
use Rattle.std.proofs.Common.{◌≡◌, ◌≢◌, ℕ, List, Some, None, length, take, drop, arith, sym, ◌∙◌, ap, refl, inl, inr}
use Rattle.std.proofs.lemmas.Option.{same_Some}
use Rattle.std.specs.FinMap.{get}
use Rattle.cf_base.specs.declared.results.AccessFault.{AccessFault}
use Rattle.cf_base.specs.declared.results.AccessFault.TheVariants as access
use Rattle.cf_base.specs.declared.results.Refusal.{Refusal}
use Rattle.cf_base.specs.declared.results.Refusal.TheVariants as refusal
use Rattle.cf_base.proofs.Maps.{get_inserted, get_insert_other}
use Rattle.cf_model.specs.State.{paging_in}
use Rattle.cf_model.specs.Steps.{Position}
use Rattle.page_model.specs.Arrangement.{live, pages_for, pages_needed, used_pages}
use Rattle.page_model.specs.Bytes.{written}
use Rattle.page_model.specs.Held.{Objects, objects}
use Rattle.page_model.proofs.CallerLemmas.{used_at_one}
use Rattle.large_objects.specs.Large.{KeepsParts, LargeState}
use Rattle.large_objects.specs.LargeSteps.{FitsSpine, GivesLarge, IsLargeFault, IsRefusedLarge, ReadsLarge, HasLongSpine, WritesLarge, part_bytes_in}
use Rattle.large_objects.specs.InnerObjects.{inner_live}
use Rattle.large_objects.proofs.Bytes.{range_same}
use Rattle.large_objects.proofs.InnerSteps.{keeps_pages}
use Rattle.page_model.proofs.CallerLemmas.{pages_same}

no_spine : (s : LargeState) (n : ℕ) → FitsSpine (part_bytes_in s) n → HasLongSpine s n → ⊥
no_spine s n (inl short) w = (let l = w.long in omega arith)
no_spine s n (inr fits) w = (let p = w.past in omega arith)

pub given_is_not_refused : (old new : LargeState) (h n : ℕ) (e : Refusal) → GivesLarge old h n new → IsRefusedLarge old n e → ⊥
given_is_not_refused old new h n refusal.Size given cause = no_spine old n given.room.fits cause
given_is_not_refused old new h n refusal.Proxy given cause = (let few = given.room.proxies in let past = cause.past in omega arith)
given_is_not_refused old new h n refusal.Space given cause = (let few = given.room.pages in let past = cause.past in omega arith)

pub one_cause : (s : LargeState) (n : ℕ) (e f : Refusal) → IsRefusedLarge s n e → IsRefusedLarge s n f → e ≡ f
one_cause s n refusal.Size refusal.Size x y = refl
one_cause s n refusal.Size refusal.Proxy x y = absurd (no_spine s n y.fits x)
one_cause s n refusal.Size refusal.Space x y = absurd (no_spine s n y.fits x)
one_cause s n refusal.Proxy refusal.Size x y = absurd (no_spine s n x.fits y)
one_cause s n refusal.Proxy refusal.Proxy x y = refl
one_cause s n refusal.Proxy refusal.Space x y = (let few = y.proxies in let past = x.past in absurd (omega arith))
one_cause s n refusal.Space refusal.Size x y = absurd (no_spine s n x.fits y)
one_cause s n refusal.Space refusal.Proxy x y = (let few = x.proxies in let past = y.past in absurd (omega arith))
one_cause s n refusal.Space refusal.Space x y = refl

pub written_has_no_fault : (old new : LargeState) (position : Position) (bytes : List ℕ) (e : AccessFault) → WritesLarge old position bytes new
    → IsLargeFault old position (length bytes) e → ⊥
written_has_no_fault old new position bytes access.Unknown w none = (let z : Some w.object ≡ None = sym w.found ∙ none in absurd cc)
written_has_no_fault old new position bytes access.Range w past =
    let l = ap length (same_Some past.bytes w.object (sym past.found ∙ w.found)) in
    let within = w.within in let over = past.past in omega arith

pub pages_used : (s : LargeState) → KeepsParts s
    → used_pages (paging_in s.inner) s.inner.held ≡ pages_for (paging_in s.inner) (inner_live (paging_in s.inner) (part_bytes_in s) s.objects)
unfolding pages_needed
pages_used s k =
    let kept = keeps_pages s.inner (record { opened = k.opened; rules = k.rules; pages = k.pages; ones = k.ones }) in
    used_at_one (paging_in s.inner) kept.paging k.ones s.inner.held kept.sound
    ∙ pages_same (paging_in s.inner) (live (paging_in s.inner) (objects s.inner.held)) (inner_live (paging_in s.inner) (part_bytes_in s) s.objects) k.counted.each

pub read_back : (old new : LargeState) (position : Position) (bytes out : List ℕ) → WritesLarge old position bytes new → ReadsLarge new position (length bytes) out → out
    ≡ bytes
read_back old new position bytes out w r =
    let there : get new.objects position.number ≡ Some (written w.object position.from bytes) = ap (λ (o : Objects). get o position.number) w.left
    ∙ get_inserted old.objects position.number _ in
    let same = same_Some r.object (written w.object position.from bytes) (sym r.found ∙ there) in
    r.value ∙ ap (λ (b : List ℕ). take (length bytes) (drop position.from b)) same ∙ range_same w.object position.from bytes w.within

pub others_stay : (old new : LargeState) (position : Position) (bytes : List ℕ) → WritesLarge old position bytes new → (q : ℕ) → q ≢ position.number
    → get new.objects q ≡ get old.objects q
others_stay old new position bytes w q ne = ap (λ (o : Objects). get o q) w.left ∙ get_insert_other old.objects position.number _ q ne
