-- The job's placeholder, counted as one more object: which objects and pages there are with it, and, for `places_are_those_beside_the_job`, that a malloc may
-- use just the addresses that are then free; each malloc has such an address, or its class has none.
use Rattle.std.proofs.Common.{◌≡◌, ◌≢◌, ℕ, false, ◌+◌, ◌-◌, ◌*◌, ◌/◌, ◌<◌, ◌≤◌, Option, Some, None, length, get_or}
use Rattle.std.proofs.Common.{replicate, arith, sym, ◌∙◌, ap, refl, inl, inr}
use Rattle.std.specs.Prelude.{◌⊎◌, nat_le}
use Rattle.std.specs.List.{position_or_len}
use Rattle.std.proofs.lemmas.Bool.{cases_eq, cases_lt}
use Rattle.std.proofs.lemmas.Bool.Decides.{nat_tests}
use Rattle.std.proofs.lemmas.List.{length-replicate}
use Rattle.std.proofs.lemmas.List.Sums.{fails_before_first}
use Rattle.std.specs.FinMap.{get, insert, remove}
use Rattle.cf_base.specs.Classes.{need}
use Rattle.cf_base.proofs.Maps.{equal_maps, get_inserted, get_insert_other, some_inserted}
use Rattle.page_model.specs.Arrangement.{IsSlotAt, LacksRoom, class_at, not_full_pages, objects_on, count_on}
use Rattle.page_model.specs.Held.{Held, Placed}
use Rattle.page_model.specs.Paging.{IsPaging, Paging, address_of, class_for, classes, page_of, slot_words}
use Rattle.page_model.specs.Steps.{IsFreePlace}
use Rattle.page_model.proofs.CallerLemmas.{class_fits, class_holds, slot_fits, slots_some, address_is_slot, nothing_on, on_page}
use Rattle.page_model.proofs.CallerLemmas.{on_yes, standing, objects_on-inserted, objects_on-left}
use Rattle.slice_model.specs.State.{Plan, IsPlan, JobSlot, Job, Sliced, IsUnderWay, IsJobOf, IsKept, IsUsable, IsSlicedFreePage, NoPlace, IsPlaceFor, job_slot}
use Rattle.slice_model.specs.State.{occupied, placeholder, with_slot, Idle, Clear, Move}
use Rattle.cf_base.proofs.Searches.{search_below}
use Rattle.page_model.proofs.CallerLemmas.{IsOpen, IsVacant, less_where_vacant, vacant_where_less, open_counts, open_page}

-- the placeholder of a slot is of its class
pub placeholder_class : (p : Paging) → IsPaging p → (k : JobSlot) → k.class < classes p → class_at p (placeholder p k) ≡ k.class
unfolding class_for
placeholder_class p ok k lt =
    let n : ℕ = 8 * (slot_words p k.class - 1) in
    let len : length (replicate {A = ℕ} (8 * (slot_words p k.class - 1)) 0) ≡ 8 * (slot_words p k.class - 1) =
    length-replicate {A = ℕ} (8 * (slot_words p k.class - 1)) 0 in
    let size : 4 ≤ slot_words p k.class = ok.sized.least k.class lt in
    let within = slot_fits p ok k.class lt in
    let needs : need (8 * (slot_words p k.class - 1)) ≡ slot_words p k.class = needed (slot_words p k.class) size in
    rw len (exactly (8 * (slot_words p k.class - 1)) needs (omega arith))
  where
    needed : (s : ℕ) → 4 ≤ s → 1 + (8 * (s - 1) + 7) / 8 ≡ s
    needed s le = omega arith

    exactly : (n : ℕ) → need n ≡ slot_words p k.class → need n ≤ p.page_words → position_or_len (λ s. nat_le (need n) s) p.sizes ≡ k.class
    exactly n needs within = elim (cases_lt k.class (position_or_len (λ s. nat_le (need n) s) p.sizes)) [
      | inl past ↦ absurd (
          let fails : nat_le (need n) (get_or p.sizes k.class 0) ≡ false = fails_before_first (λ s. nat_le (need n) s) p.sizes k.class 0 past in
          let fails' : get_or p.sizes k.class 0 < need n = grind (arith, nat_tests) in
          omega arith)
      | inr up ↦ (
          let c : position_or_len (λ s. nat_le (need n) s) p.sizes < classes p = class_fits p ok n within in
          let holds : need n ≤ get_or p.sizes (position_or_len (λ s. nat_le (need n) s) p.sizes) 0 = class_holds p ok n c in
          elim (cases_lt (position_or_len (λ s. nat_le (need n) s) p.sizes) k.class) [
            | inl below ↦ absurd (let rises = ok.sized.rising (position_or_len (λ s. nat_le (need n) s) p.sizes) k.class below lt in omega arith)
            | inr from ↦ omega arith
          ])
    ]

-- no object has the number of the placeholder
pub no_placeholder : (plan : Plan) (m : Held) → ((h : ℕ) (x : Placed) → get m h ≡ Some x → h < plan.proxies) → get m plan.proxies ≡ None
no_placeholder plan m numbers = go (get m plan.proxies) refl
  where
    go : (o : Option Placed) → get m plan.proxies ≡ o → o ≡ None
    go None e = refl
    go (Some x) e = absurd (let l = numbers plan.proxies x e in omega arith)

-- the placeholder takes no object's number
pub get_beside : (plan : Plan) (m : Held) (o : Option JobSlot) (h : ℕ) → h < plan.proxies → get (with_slot plan m o) h ≡ get m h
get_beside plan m None h lt = refl
get_beside plan m (Some k) h lt = get_insert_other m plan.proxies (placeholder plan.paging k) h (omega arith)

-- each object of the arrangement with the placeholder is an object of m or the placeholder
pub some_beside : (plan : Plan) (m : Held) (o : Option JobSlot) (q : ℕ) (y : Placed) → get (with_slot plan m o) q ≡ Some y
    → (get m q ≡ Some y) ⊎ ((k : JobSlot) × (o ≡ Some k) × (q ≡ plan.proxies) × (placeholder plan.paging k ≡ y))
some_beside plan m None q y there = inl there
some_beside plan m (Some k) q y there = elim (some_inserted m plan.proxies (placeholder plan.paging k) q y there) [
  | inl (is, same) ↦ inr (k, refl, is, same)
  | inr (_, was) ↦ inl was
]

-- adding an object and adding the placeholder can be exchanged
pub inserted_beside : (plan : Plan) (m : Held) (o : Option JobSlot) (h : ℕ) (x : Placed) → h < plan.proxies
    → insert (with_slot plan m o) h x ≡ with_slot plan (insert m h x) o
inserted_beside plan m None h x lt = refl
inserted_beside plan m (Some k) h x lt = equal_maps _ _ (λ q. elim (cases_eq q h) [
  | inl is ↦ rw is (get_inserted (insert m plan.proxies (placeholder plan.paging k)) h x
      ∙ sym (get_insert_other (insert m h x) plan.proxies (placeholder plan.paging k) h (omega arith) ∙ get_inserted m h x))
  | inr ne ↦ get_insert_other (insert m plan.proxies (placeholder plan.paging k)) h x q ne ∙ elim (cases_eq q plan.proxies) [
    | inl is ↦ rw is (get_inserted m plan.proxies (placeholder plan.paging k) ∙ sym (get_inserted (insert m h x) plan.proxies (placeholder plan.paging k)))
    | inr ne' ↦ get_insert_other m plan.proxies (placeholder plan.paging k) q ne' ∙ sym (get_insert_other m h x q ne)
        ∙ sym (get_insert_other (insert m h x) plan.proxies (placeholder plan.paging k) q ne')
  ]
])

-- the slot of a pending job has a class and words yet to do
pub job_class : (p : Paging) (m : Held) (j : Job) → IsJobOf p m j → (k : JobSlot) → job_slot j ≡ Some k → IsUnderWay p k
job_class p m Idle is k e = absurd (let e' : None ≡ Some k = e in cc)
job_class p m (Clear g) is k e = (let same : g ≡ k = (let e' : Some g ≡ Some k = e in cc) in rw same at is)
job_class p m (Move h g) is k e = (let same : g ≡ k = (let e' : Some g ≡ Some k = e in cc) in rw same at is.0)

-- a page with an object of the class has at least one
some_on : (p : Paging) (m : Held) (c page q : ℕ) (y : Placed) → get m q ≡ Some y → page_of p y.place ≡ page → class_at p y ≡ c → 0 < objects_on p m c page
some_on p m c page q y there on is =
    let less = objects_on-left p m q y there c is in
    let less' : objects_on p (remove m q) c page + 1 ≡ objects_on p m c page = rw on at less in
    omega arith

module _ (plan : Plan) (ok : IsPlan plan) (s : Sliced) (kept : IsKept plan s) where
  abbrev p : Paging
  p = plan.paging

  abbrev all : Held
  all = occupied plan s

  fresh : get s.held plan.proxies ≡ None
  fresh = no_placeholder plan s.held kept.numbers

  -- each object is in the arrangement with the placeholder too
  pub beside : (h : ℕ) (x : Placed) → get s.held h ≡ Some x → get (occupied plan s) h ≡ Some x
  beside h x there = get_beside plan s.held (job_slot s.job) h (kept.numbers h x there) ∙ there

  pub slot_class : (k : JobSlot) → job_slot s.job ≡ Some k → class_at plan.paging (placeholder plan.paging k) ≡ k.class
  slot_class k e = placeholder_class plan.paging ok.paging k (job_class plan.paging s.held s.job kept.job k e).class

  pub slot_there : (k : JobSlot) → job_slot s.job ≡ Some k → get (occupied plan s) plan.proxies ≡ Some (placeholder plan.paging k)
  slot_there k e = rw e (get_inserted s.held plan.proxies (placeholder plan.paging k))

  -- each page holds the same number of objects, and the job's page one more
  on_beside : (o : Option JobSlot) (c page : ℕ) → objects_on p s.held c page ≤ objects_on p (with_slot plan s.held o) c page
  on_beside None c page = omega arith
  on_beside (Some k) c page = (let e = objects_on-inserted p s.held plan.proxies (placeholder p k) fresh c page in omega arith)

  pub on_more : (c page : ℕ) → objects_on plan.paging s.held c page ≤ objects_on plan.paging (occupied plan s) c page
  on_more c page = on_beside (job_slot s.job) c page

  on_job : (k : JobSlot) (page : ℕ) → job_slot s.job ≡ Some k → page_of p k.address ≡ page → 0 < objects_on p all k.class page
  on_job k page e on =
      let i = objects_on-inserted p s.held plan.proxies (placeholder p k) fresh k.class page in
      let yes = on_yes p k.class page (placeholder p k) on (slot_class k e) in
      let more : 0 < objects_on p (with_slot plan s.held (Some k)) k.class page =
      (let i' : objects_on p (insert s.held plan.proxies (placeholder p k)) k.class page
      ≡ objects_on p s.held k.class page + 1 = rw yes at i in omega arith) in
      rw e more

  -- an address that is neither an object's nor the job slot's is vacant in the arrangement with the placeholder
  vacant : (a : ℕ) → ((q : ℕ) (y : Placed) → get s.held q ≡ Some y → y.place ≢ a) → ((k : JobSlot) → job_slot s.job ≡ Some k → k.address ≢ a) → IsVacant all a
  vacant a empty unheld q y there at = elim (some_beside plan s.held (job_slot s.job) q y there) [
    | inl was ↦ empty q y was at
    | inr (k, e, _, same) ↦ unheld k e (ap (λ (z : Placed). z.place) same ∙ at)
  ]

  -- the page of a usable slot is partly full (`IsOpen`) in the arrangement with the placeholder
  usable_open : (c a : ℕ) → IsUsable p s c a → IsOpen p all c (page_of p a)
  usable_open c a u =
      let some : 0 < objects_on p all c (page_of p a) = elim u.page [
        | inl some ↦ (let m = on_more c (page_of p a) in omega arith)
        | inr (k, e, on, is) ↦ rw is at (on_job k (page_of p a) e on)
      ] in
      record {
        within = u.slot.page;
        some = some;
        less = less_where_vacant p ok.paging c all kept.sound a u.slot (vacant a u.empty u.unheld);
      }

  -- a vacant slot is usable if an object of its class lies on its page
  usable_of : (c a : ℕ) → IsSlotAt p c a → IsVacant all a → 0 < objects_on p all c (page_of p a) → IsUsable p s c a
  usable_of c a slot free some = record {
    slot = slot;
    empty = λ q y there. free q y (beside q y there);
    unheld = λ k e. free plan.proxies (placeholder p k) (slot_there k e);
    page = (
        let member = on_page p all c (page_of p a) some in
        elim (some_beside plan s.held (job_slot s.job) member.0 member.1 member.2) [
          | inl was ↦ inl (some_on p s.held c (page_of p a) member.0 member.1 was member.3 member.4)
          | inr (k, e, _, same) ↦ inr (
            k,
            e,
            ap (λ (z : Placed). page_of p z.place) same ∙ member.3,
            sym (slot_class k e) ∙ ap (class_at p) same ∙ member.4,
          )
        ]);
  }

  -- a page that is partly full in that arrangement has a usable slot
  open_usable : (c page : ℕ) → c < classes p → IsOpen p all c page → (a : ℕ) × IsUsable p s c a
  open_usable c page lt o =
      let free = vacant_where_less p ok.paging c lt page o.within all kept.sound o.some o.less in
      let at = address_is_slot p ok.paging c lt page free.0 o.within free.1 in
      let on = at.1 in
      let some = o.some in
      (address_of p c page free.0, usable_of c (address_of p c page free.0) at.0 free.2 (rw on some))

  -- a free page has no object in the arrangement with the placeholder
  bare : (page : ℕ) → IsSlicedFreePage p s page → count_on p all page ≡ 0
  bare page f = elim (cases_lt 0 (count_on p all page)) [
    | inr none ↦ omega arith
    | inl some ↦ absurd (
        let o = standing p all page some in
        elim (some_beside plan s.held (job_slot s.job) o.0 o.1 o.2) [
          | inl was ↦ nothing_on p s.held page f.empty o.0 o.1 was o.3
          | inr (k, e, _, same) ↦ f.unheld k e (ap (λ (z : Placed). page_of p z.place) same ∙ o.3)
        ])
  ]

  free_where_bare : (page : ℕ) → page < p.pages → count_on p all page ≡ 0 → IsSlicedFreePage p s page
  free_where_bare page lt none = record {
    within = lt;
    empty = elim (cases_lt 0 (count_on p s.held page)) [
      | inr zero' ↦ omega arith
      | inl some ↦ absurd (let o = standing p s.held page some in nothing_on p all page none o.0 o.1 (beside o.0 o.1 o.2) o.3)
    ];
    unheld = λ k e on. nothing_on p all page none plan.proxies (placeholder p k) (slot_there k e) on;
  }

  -- an object may use an address if and only if it is free in the arrangement with the placeholder
  pub place_is_free : (n a : ℕ) → IsPlaceFor plan.paging s (class_for plan.paging n) a → IsFreePlace plan.paging (occupied plan s) n a
  place_is_free n a f = elim f.choice [
    | inl u ↦ (let o = usable_open (class_for p n) a u in record { slot = f.slot; unused = vacant a u.empty u.unheld; choice = inl (o.some, o.less) })
    | inr (none, page) ↦ record {
      slot = f.slot;
      unused = λ q y there at. nothing_on p all (page_of p a) (bare (page_of p a) page) q y there (ap (page_of p) at);
      choice = inr (
        elim (cases_lt 0 (not_full_pages p all (class_for p n))) [
          | inl some ↦ absurd (
              let o = open_page p all (class_for p n) some in
              let u = open_usable (class_for p n) o.0 f.slot.class o.1 in
              none u.0 u.1)
          | inr zero' ↦ omega arith
        ],
        bare (page_of p a) page,
      );
    }
  ]

  no_usable : (c : ℕ) → not_full_pages p all c ≡ 0 → (b : ℕ) → IsUsable p s c b → ⊥
  no_usable c none b u = (let counts = open_counts p all c (page_of p b) (usable_open c b u) in omega arith)

  pub free_is_place : (n a : ℕ) → IsFreePlace plan.paging (occupied plan s) n a → IsPlaceFor plan.paging s (class_for plan.paging n) a
  free_is_place n a f = record {
    slot = f.slot;
    choice = elim f.choice [
      | inl (some, less) ↦ inl (usable_of (class_for p n) a f.slot f.unused some)
      | inr (none, alone) ↦ inr (no_usable (class_for p n) none, free_where_bare (page_of p a) f.slot.page alone)
    ];
  }

  -- class c has no address to use if and only if the arrangement with the placeholder has no slot left for c
  pub lacking_is_no_place : (c : ℕ) → LacksRoom plan.paging (occupied plan s) c → NoPlace plan.paging s c
  lacking_is_no_place c l = record {
    unusable = no_usable c l.full;
    taken = λ page f. (let t = l.taken page f.within in let b = bare page f in omega arith);
  }

  pub no_place_is_lacking : (c : ℕ) → c < classes plan.paging → NoPlace plan.paging s c → LacksRoom plan.paging (occupied plan s) c
  no_place_is_lacking c lt none = record {
    full = elim (cases_lt 0 (not_full_pages p all c)) [
      | inl some ↦ absurd (let o = open_page p all c some in let u = open_usable c o.0 lt o.1 in none.unusable u.0 u.1)
      | inr zero' ↦ omega arith
    ];
    taken = λ page within. elim (cases_lt 0 (count_on p all page)) [
      | inl some ↦ some
      | inr zero' ↦ absurd (none.taken page (free_where_bare page within (omega arith)))
    ];
  }

  -- an object of n bytes has an address to use, or its class has none (`NoPlace`)
  pub place_or_none : (n : ℕ) → class_for plan.paging n < classes plan.paging
      → ((a : ℕ) × IsPlaceFor plan.paging s (class_for plan.paging n) a) ⊎ NoPlace plan.paging s (class_for plan.paging n)
  place_or_none n lt = elim (cases_lt 0 (not_full_pages p all (class_for p n))) [
    | inl some ↦ inl (
        let o = open_page p all (class_for p n) some in
        let u = open_usable (class_for p n) o.0 lt o.1 in
        (u.0, record { slot = u.1.slot; choice = inl u.1 }))
    | inr none ↦ elim (search_below (λ g. 0 < count_on p all g) (λ g. count_on p all g ≡ 0) bare_or_not p.pages) [
      | inl taken ↦ inr (lacking_is_no_place (class_for p n) (record { full = omega arith; taken = taken }))
      | inr (page, within, alone) ↦ inl (
          let at = address_is_slot p ok.paging (class_for p n) lt page 0 within (slots_some p ok.paging (class_for p n) lt) in
          let on = at.1 in (
            address_of p (class_for p n) page 0,
            record { slot = at.0; choice = inr (no_usable (class_for p n) (omega arith), rw on (free_where_bare page within alone)) },
          ))
    ]
  ]
    where
      bare_or_not : (g : ℕ) → (0 < count_on p all g) ⊎ (count_on p all g ≡ 0)
      bare_or_not g = elim (cases_lt 0 (count_on p all g)) [
        | inl some ↦ inl some
        | inr zero' ↦ inr (omega arith)
      ]
