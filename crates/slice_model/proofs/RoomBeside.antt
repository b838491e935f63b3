-- For laws on malloc of `room.rt`, `order.rt` and `jobs.rt`: if a slot is left, the pages suffice for the objects and the new one, and conversely while no job
-- is pending; each malloc is done or refused, for one cause.
use Rattle.std.proofs.Common.{◌≡◌, ℕ, ◌+◌, ◌<◌, ◌≤◌, Option, Some, None, arith, refl, subst, inl, inr}
use Rattle.std.specs.Prelude.{◌⊎◌, nat_eq}
use Rattle.std.proofs.lemmas.Bool.{cases_lt}
use Rattle.std.specs.FinMap.{get, insert, len}
use Rattle.cf_base.specs.Classes.{need}
use Rattle.cf_base.proofs.MapValues.{map_values-insert}
use Rattle.cf_base.proofs.Ranges.{one, sum_le}
use Rattle.page_model.specs.Arrangement.{live, pages_needed_with}
use Rattle.page_model.specs.Counts.{ceil_div}
use Rattle.page_model.specs.Held.{Held, Objects, Placed, objects}
use Rattle.page_model.specs.Paging.{IsPaging, Paging, class_for, classes, slots_of, page_of}
use Rattle.page_model.specs.Steps.{Request, zeros_at}
use Rattle.page_model.proofs.CallerLemmas.{bytes_missing, ceil_mono, class_fits, lacks_room_at_one, live_added}
use Rattle.slice_model.specs.State.{Plan, IsPlan, JobSlot, Sliced, IsKept, IsSlicedFreePage, IsPlaceFor, IsUsable, NoPlace}
use Rattle.slice_model.specs.State.{job_slot, occupied, placeholder, with_slot, Idle}
use Rattle.slice_model.specs.Steps.{AddsSlicedObject, IsSlicedRefusedBy}
use Rattle.slice_model.specs.declared.refusals.SliceRefusal.{SliceRefusal}
use Rattle.slice_model.specs.declared.refusals.SliceRefusal.TheVariants as refusal
use Rattle.slice_model.proofs.Occupied.{lacking_is_no_place, no_place_is_lacking, no_placeholder, place_or_none}
use Rattle.cf_base.proofs.Searches.{fresh_key, few_keys}

needed_le : (p : Paging) → IsPaging p → (o u : Objects) (n : ℕ) → ((c : ℕ) → live p o c ≤ live p u c) → pages_needed_with p o n ≤ pages_needed_with p u n
unfolding pages_needed_with
needed_le p ok o u n le = sum_le (λ c. ceil_div (live p o c + one (nat_eq (class_for p n) c)) (slots_of p c))
    (λ c. ceil_div (live p u c + one (nat_eq (class_for p n) c)) (slots_of p c)) 0 (classes p)
    (λ c _ lt. (let l = le c in ceil_mono (live p o c + one (nat_eq (class_for p n) c)) (live p u c + one (nat_eq (class_for p n) c)) (slots_of p c)
    (omega arith)))

-- the objects alone need no more pages than the objects with the placeholder
needed_beside : (plan : Plan) → IsPlan plan → (m : Held) → get m plan.proxies ≡ None → (o : Option JobSlot) (n : ℕ)
    → pages_needed_with plan.paging (objects m) n ≤ pages_needed_with plan.paging (objects (with_slot plan m o)) n
needed_beside plan ok m none None n = omega arith
needed_beside plan ok m none (Some k) n =
    let e = map_values-insert (λ (x : Placed). x.bytes) m plan.proxies (placeholder plan.paging k) in
    rw e (needed_le plan.paging ok.paging (objects m) (insert (objects m) plan.proxies (placeholder plan.paging k).bytes) n
    (λ c. (let l = live_added plan.paging (objects m) plan.proxies (placeholder plan.paging k).bytes c (bytes_missing m plan.proxies none) in omega arith)))

module _ (plan : Plan) (ok : IsPlan plan) (s : Sliced) (kept : IsKept plan s) (n : ℕ) (fits : need n ≤ plan.paging.page_words) where
  abbrev c : ℕ
  c = class_for plan.paging n

  lt : class_for plan.paging n < classes plan.paging
  lt = class_fits plan.paging ok.paging n fits

  -- if the objects and the new one need more pages than the heap has, there is no place
  pub over_is_no_place : plan.paging.pages < pages_needed_with plan.paging (objects s.held) n → NoPlace plan.paging s (class_for plan.paging n)
  over_is_no_place over =
      let more = needed_beside plan ok s.held (no_placeholder plan s.held kept.numbers) (job_slot s.job) n in
      lacking_is_no_place plan ok s kept (class_for plan.paging n)
      ((lacks_room_at_one plan.paging ok.paging ok.ones (occupied plan s) kept.sound n lt).1 (omega arith))

  -- if there is a place, the objects and the new one need at most the heap's pages
  pub place_is_within : (a : ℕ) → IsPlaceFor plan.paging s (class_for plan.paging n) a → pages_needed_with plan.paging (objects s.held) n ≤ plan.paging.pages
  place_is_within a f = elim (cases_lt plan.paging.pages (pages_needed_with plan.paging (objects s.held) n)) [
    | inr within ↦ within
    | inl over ↦ absurd (
        let none = over_is_no_place over in
        elim f.choice [
          | inl usable ↦ none.unusable a usable
          | inr (_, page) ↦ none.taken (page_of plan.paging a) page
        ])
  ]

  pub slot_is_within : (a : ℕ) → IsUsable plan.paging s (class_for plan.paging n) a → pages_needed_with plan.paging (objects s.held) n ≤ plan.paging.pages
  slot_is_within a usable = place_is_within a (record { slot = usable.slot; choice = inl usable })

  pub page_is_within : (page : ℕ) → IsSlicedFreePage plan.paging s page → pages_needed_with plan.paging (objects s.held) n ≤ plan.paging.pages
  page_is_within page free = elim (cases_lt plan.paging.pages (pages_needed_with plan.paging (objects s.held) n)) [
    | inr within ↦ within
    | inl over ↦ absurd ((over_is_no_place over).taken page free)
  ]

  -- while no job is pending, there is no place only if the objects and the new one need more pages than the heap has
  pub idle_is_over : s.job ≡ Idle → NoPlace plan.paging s (class_for plan.paging n) → plan.paging.pages < pages_needed_with plan.paging (objects s.held) n
  idle_is_over idle none =
      let l = (lacks_room_at_one plan.paging ok.paging ok.ones (occupied plan s) kept.sound n lt).0
      (no_place_is_lacking plan ok s kept (class_for plan.paging n) lt none) in
      subst (λ j. plan.paging.pages < pages_needed_with plan.paging (objects (with_slot plan s.held (job_slot j))) n) idle l

-- a refusal has one cause
pub one_cause : (plan : Plan) (s : Sliced) (n : ℕ) (a b : SliceRefusal) → IsSlicedRefusedBy plan s n a → IsSlicedRefusedBy plan s n b → a ≡ b
one_cause plan s n refusal.Size refusal.Size x y = refl
one_cause plan s n refusal.Size refusal.Proxy x y = absurd (let f = y.fits in omega arith)
one_cause plan s n refusal.Size refusal.Space x y = absurd (let f = y.fits in omega arith)
one_cause plan s n refusal.Size refusal.Busy x y = absurd (let f = y.fits in omega arith)
one_cause plan s n refusal.Proxy refusal.Size x y = absurd (let f = x.fits in omega arith)
one_cause plan s n refusal.Proxy refusal.Proxy x y = refl
one_cause plan s n refusal.Proxy refusal.Space x y = absurd (let f = x.all in let g = y.few in omega arith)
one_cause plan s n refusal.Proxy refusal.Busy x y = absurd (let f = x.all in let g = y.few in omega arith)
one_cause plan s n refusal.Space refusal.Size x y = absurd (let f = x.fits in omega arith)
one_cause plan s n refusal.Space refusal.Proxy x y = absurd (let f = y.all in let g = x.few in omega arith)
one_cause plan s n refusal.Space refusal.Space x y = refl
one_cause plan s n refusal.Space refusal.Busy x y = absurd (let f = x.over in let g = y.within in omega arith)
one_cause plan s n refusal.Busy refusal.Size x y = absurd (let f = x.fits in omega arith)
one_cause plan s n refusal.Busy refusal.Proxy x y = absurd (let f = y.all in let g = x.few in omega arith)
one_cause plan s n refusal.Busy refusal.Space x y = absurd (let f = y.over in let g = x.within in omega arith)
one_cause plan s n refusal.Busy refusal.Busy x y = refl

-- a malloc that is done has no cause of a refusal
pub given_or_refused : (plan : Plan) → IsPlan plan → (s : Sliced) → IsKept plan s → (asked : Request) (new : Sliced) → AddsSlicedObject plan s asked new
    → (e : SliceRefusal) → ¬ IsSlicedRefusedBy plan s asked.length e
given_or_refused plan ok s kept asked new g refusal.Size x = (let f = g.fits in omega arith)
given_or_refused plan ok s kept asked new g refusal.Proxy x = (let f = g.few in let a = x.all in omega arith)
given_or_refused plan ok s kept asked new g refusal.Space x = (
    let within = place_is_within plan ok s kept asked.length g.fits g.place g.free in let over = x.over in omega arith)
given_or_refused plan ok s kept asked new g refusal.Busy x = elim g.free.choice [
  | inl usable ↦ x.lacking.unusable g.place usable
  | inr (_, page) ↦ x.lacking.taken (page_of plan.paging g.place) page
]

-- a malloc is done or refused
pub answered : (plan : Plan) → IsPlan plan → (s : Sliced) → IsKept plan s → (n : ℕ)
    → ((e : SliceRefusal) × IsSlicedRefusedBy plan s n e) ⊎ ((h : ℕ) × (new : Sliced) × AddsSlicedObject plan s (record { number = h; length = n }) new)
answered plan ok s kept n = elim (cases_lt plan.paging.page_words (need n)) [
  | inl large ↦ inl (refusal.Size, large)
  | inr fits ↦ elim (cases_lt (len s.held) plan.proxies) [
    | inr full ↦ inl (refusal.Proxy, record { fits = fits; all = (let l = few_keys plan.proxies s.held kept.numbers in omega arith) })
    | inl few ↦ elim (cases_lt plan.paging.pages (pages_needed_with plan.paging (objects s.held) n)) [
      | inl over ↦ inl (refusal.Space, record { fits = fits; few = few; over = over })
      | inr within ↦ elim (place_or_none plan ok s kept n (class_fits plan.paging ok.paging n fits)) [
        | inr none ↦ inl (refusal.Busy, record { fits = fits; few = few; within = within; lacking = none })
        | inl (a, place) ↦ inr (
            let h = fresh_key plan.proxies s.held few in (
              h.0,
              record s { held = insert s.held h.0 (zeros_at a n) },
              record { fits = fits; few = few; in_range = h.1; unused = h.2; place = a; free = place; placed = refl },
            ))
      ]
    ]
  ]
]
