-- For `laws`: an object's number is below the number of proxies; a malloc's handle is new; one that names no object is refused; a read gives what was written.
use Rattle.std.proofs.Common.{◌≡◌, ℕ, ℤ, pos, ◌<◌, List, length, Some, None, Ok, Err, arith, sym, ◌∙◌, ap, subst, inl, inr}
use Rattle.std.specs.Prelude.{Result, replicate}
use Rattle.std.specs.FinMap.{get}
use Rattle.std.proofs.lemmas.Bool.{cases_lt}
use Rattle.std.proofs.lemmas.Option.{same_Some}
use Rattle.cf_base.proofs.Maps.{get_inserted}
use Rattle.cf_base.specs.declared.results.AccessFault.{AccessFault}
use Rattle.cf_base.specs.declared.results.AccessFault.TheVariants.{Unknown, Range}
use Rattle.cf_base.specs.declared.results.NotLive.{NotLive}
use Rattle.cf_base.specs.Settings.{Profile}
use Rattle.cf_base.specs.declared.results.Handle.{Handle}
use Rattle.cf_base.specs.declared.results.Refusal.{Refusal}
use Rattle.cf_base.specs.declared.results.Refusal.TheVariants.{Size, Proxy, Space}
use Rattle.cf_model.specs.Steps.{Position}
use Rattle.page_model.specs.Bytes.{written}
use Rattle.page_model.specs.Held.{Objects, objects}
use Rattle.page_model.proofs.CallerLemmas.{held_of_bytes, length-written}
use Rattle.large_objects.specs.Large.{KeepsParts, LargeState}
use Rattle.large_objects.specs.LargeSteps.{IsLargeFree, IsLargeMalloc, IsLargeRead, IsLargeWrite, ReadsLarge, WritesLarge, part_bytes_in}
use Rattle.large_objects.proofs.ObjectLaws.{read_back}
use Rattle.c_base.specs.Codes.{access_code, free_code, malloc_code}
use Rattle.c_base.specs.Handles.{none, number_in, raised_by}
use Rattle.c_base.specs.Shown.{malloc_number}
use Rattle.c_base.proofs.CallerLemmas.{names_new, no_number}
use Rattle.norphuen_large.specs.Calls.{IsLargeMallocCall, IsLargeReadCall, IsLargeWriteCall, position_in}
use Rattle.norphuen_large.specs.HandleRules.{IsNewLargeHandle, KeepsLargeHandles}
use Rattle.norphuen_large.specs.HeldState.{LargeHeldState}

-- ---- the numbers of objects

-- an object's number is below the number of proxies, as that of each part and spine
inner_small : (s : LargeState) (n : ℕ) (v : List ℕ) → KeepsParts s → get (objects s.inner.held) n ≡ Some v → n < s.inner.profile.proxies
inner_small s n v k found = (let x = held_of_bytes s.inner.held n v found in k.rules.numbers.handles n x.0 x.1)

pub number_small : (s : LargeState) (n : ℕ) (v : List ℕ) → KeepsParts s → get s.objects n ≡ Some v → n < s.inner.profile.proxies
number_small s n v k found = elim (cases_lt (part_bytes_in s) (length v)) [
  | inl long ↦ (let x = k.laid.spines n v found long in inner_small s n x.spine k x.found)
  | inr short ↦ inner_small s n v k (k.laid.small n v found short)
]

-- ---- the handle of a malloc is new

pub is_new : (old new : LargeHeldState) (bytes before after : ℕ) → IsLargeMallocCall old bytes before (pos 0) after new → KeepsLargeHandles old → (r : Result Handle Refusal)
    → malloc_code r ≡ pos 0 → after ≡ malloc_number old.handles before r → IsLargeMalloc old.heap bytes r new.heap → IsNewLargeHandle old bytes after new
is_new old new bytes before after c k (Ok h) code is step =
    let there : get new.heap.objects h.0 ≡ Some (replicate bytes 0) = ap (λ (o : Objects). get o h.0) step.given ∙ get_inserted old.heap.objects h.0 _ in
    let small = number_small new.heap h.0 (replicate bytes 0) c.kept.parts there in
    let p = ap (λ (p : Profile). p.proxies) c.kept.stays.inner.profile in
    let named = names_new h.0 after k (omega (arith, small, p)) is c.same in
    record { before = ap (get old.heap.objects) named.0 ∙ step.unused; names = ap (get new.heap.objects) named.1 ∙ there; in_range = named.2 }
is_new old new bytes before after c k (Err Size) code is step = absurd (let e : pos 1 ≡ pos 0 = code in cc)
is_new old new bytes before after c k (Err Proxy) code is step = absurd (let e : pos 2 ≡ pos 0 = code in cc)
is_new old new bytes before after c k (Err Space) code is step = absurd (let e : pos 3 ≡ pos 0 = code in cc)

-- ---- a handle that names no object is refused

no_object : {A : Type 0} (old : LargeHeldState) {n : ℕ} {v : List ℕ} → KeepsLargeHandles old → n ≡ none → get old.heap.objects n ≡ Some v → A
no_object {A} old {n} {v} k is found = no_number k is (number_small old.heap n v k.rules found)

pub free_refused : (old new : LargeHeldState) (handle : ℕ) (code : ℤ) (r : Result (Unit {0}) NotLive) → KeepsLargeHandles old → number_in old.handles handle ≡ none
    → code ≡ free_code r → IsLargeFree old.heap (number_in old.handles handle) r new.heap → new.handles ≡ raised_by old.handles handle r
    → (code ≡ pos 4) × (new.heap ≡ old.heap) × (new.handles ≡ old.handles)
free_refused old new handle code (Ok u) k is by_code step raises = no_object old k is step.found
free_refused old new handle code (Err e) k is by_code step raises = (by_code, step.1, raises)

pub write_refused : (old new : LargeHeldState) (place : Position) (bytes : List ℕ) (code : ℤ) (r : Result (Unit {0}) AccessFault) → KeepsLargeHandles old
    → place.number ≡ none → code ≡ access_code r → IsLargeWrite old.heap place bytes r new.heap → (code ≡ pos 4) × (new.heap ≡ old.heap)
write_refused old new place bytes code (Ok u) k is by_code step = no_object old k is step.found
write_refused old new place bytes code (Err Unknown) k is by_code step = (by_code, step.1)
write_refused old new place bytes code (Err Range) k is by_code step = no_object old k is step.0.found

pub read_refused : (old : LargeHeldState) (place : Position) (before after : List ℕ) (code : ℤ) (r : Result (Unit {0}) AccessFault) → KeepsLargeHandles old
    → place.number ≡ none → code ≡ access_code r → IsLargeRead old.heap place before r after → (code ≡ pos 4) × (after ≡ before)
read_refused old place before after code (Ok u) k is by_code step = no_object old k is step.found
read_refused old place before after code (Err Unknown) k is by_code step = (by_code, step.1)
read_refused old place before after code (Err Range) k is by_code step = no_object old k is step.0.found

-- ---- a read gives what was written

module _ (old new : LargeState) (p : Position) (bytes : List ℕ) (w : WritesLarge old p bytes new) where
  there : get new.objects p.number ≡ Some (written w.object p.from bytes)
  there = ap (λ (o : Objects). get o p.number) w.left ∙ get_inserted old.objects p.number _

  same_read : (before after : List ℕ) (code : ℤ) (r : Result (Unit {0}) AccessFault) → length before ≡ length bytes → code ≡ access_code r
      → IsLargeRead new p before r after → (code ≡ pos 0) × (after ≡ bytes)
  same_read before after code (Ok u) many by_code read = (
    by_code,
    read_back old new p bytes after w (subst (λ (n : ℕ). ReadsLarge new p n after) many read),
  )
  same_read before after code (Err Unknown) many by_code read = absurd (let z : Some (written w.object p.from bytes) ≡ None = sym there ∙ read.0 in cc)
  same_read before after code (Err Range) many by_code read = absurd (
      let same = same_Some read.0.bytes (written w.object p.from bytes) (sym read.0.found ∙ there) in
      let long = ap length same ∙ length-written w.object p.from bytes w.within in
      let past = read.0.past in let within = w.within in
      omega (arith, long, past, within, many))

pub written_is_read : (old mid new : LargeHeldState) (handle from : ℕ) (bytes before after : List ℕ) (code : ℤ) → IsLargeWriteCall old handle from bytes (pos 0) mid
    → IsLargeReadCall mid handle from before code after new → length before ≡ length bytes → (code ≡ pos 0) × (after ≡ bytes)
written_is_read old mid new handle from bytes before after code w r many = by_answer w.answer w.by_code w.step
  where
    place : position_in mid handle from ≡ position_in old handle from
    place = ap (λ (hs : List ℕ). record { number = number_in hs handle; from = from }) w.same

    by_answer : (a : Result (Unit {0}) AccessFault) → pos 0 ≡ access_code a → IsLargeWrite old.heap (position_in old handle from) bytes a mid.heap
        → (code ≡ pos 0) × (after ≡ bytes)
    by_answer (Ok u) by_code step =
        same_read old.heap mid.heap (position_in old handle from) bytes step before after code r.answer many r.by_code
        (subst (λ (p : Position). IsLargeRead mid.heap p before r.answer after) place r.read)
    by_answer (Err Unknown) by_code step = absurd (let z : pos 0 ≡ pos 4 = by_code in cc)
    by_answer (Err Range) by_code step = absurd (let z : pos 0 ≡ pos 5 = by_code in cc)
