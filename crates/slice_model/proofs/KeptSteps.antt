-- Each call keeps the rules of the state (`IsKept`), as the laws of `kept.rt` say, since an object and the job's placeholder only exchange addresses. Also:
-- with the placeholder, which pages of the job's class are partly full, and when two are without it.
use Rattle.std.proofs.Common.{◌≡◌, ◌≢◌, ℕ, ◌+◌, ◌-◌, ◌*◌, ◌<◌, ◌≤◌, List, Option, Some, None, length, replicate, arith, sym, ◌∙◌, ap, refl, subst, inl, inr}
use Rattle.std.proofs.lemmas.Bool.{cases_eq, cases_lt}
use Rattle.std.proofs.lemmas.List.{length-replicate}
use Rattle.std.specs.FinMap.{get, insert, remove}
use Rattle.cf_base.proofs.Maps.{equal_maps, get_inserted, get_insert_other, get_removed, get_remove_other, some_inserted, some_removed, remove_fresh}
use Rattle.cf_base.proofs.Ranges.{one, count_changed}
use Rattle.cf_base.proofs.Sums.{insert_again}
use Rattle.cf_base.proofs.Values.{still}
use Rattle.page_model.specs.Arrangement.{IsSound, class_at, not_full_pages, objects_on}
use Rattle.page_model.specs.Held.{Held, Placed}
use Rattle.page_model.specs.Paging.{Paging, class_for, classes, page_of, slot_words, slots_of}
use Rattle.page_model.specs.Steps.{Moves, MustMove, Request, zeros_at}
use Rattle.page_model.proofs.CallerLemmas.{mover_is_other, objects_on-exchanged, objects_on-inserted, objects_on-elsewhere, part_full, part_yes}
use Rattle.page_model.proofs.CallerLemmas.{sound_exchanged, sound_placed, sound_without, on_yes, one_le, part_empty, part_over}
use Rattle.slice_model.specs.State.{Plan, IsPlan, JobSlot, Job, Sliced, IsJobOf, IsKept, advanced, job_slot, occupied, placeholder, with_slot, Idle, Clear, Move}
use Rattle.slice_model.specs.Steps.{EndsJob, AddsSlicedObject, IsSlice, RemovesSlicedObject, SliceOf, LeavesJob, done_after, fresh_slot}
use Rattle.slice_model.proofs.Occupied.{get_beside, inserted_beside, job_class, no_placeholder, place_is_free, placeholder_class}

-- n is sound, and has as many objects of each class on each page as m
pub record IsAlike (p : Paging) (m n : Held) : Type 0 where
  pub sound : IsSound p n
  pub counts : (c page : ℕ) → objects_on p n c page ≡ objects_on p m c page

-- the arrangement stays alike if an object is removed and one of the same class is put at its address
exchange : (p : Paging) (m : Held) (h : ℕ) (x : Placed) → get m h ≡ Some x → (q : ℕ) (bytes : List ℕ) → get (remove m h) q ≡ None
    → class_at p (record { place = x.place; bytes = bytes }) ≡ class_at p x → IsSound p m
    → IsAlike p m (insert (remove m h) q (record { place = x.place; bytes = bytes }))
exchange p m h x there q bytes free class s = record {
  sound = sound_exchanged p m h x there q bytes free class s;
  counts = objects_on-exchanged p m h x there q bytes free class;
}

alike_then : (p : Paging) (a b c : Held) → IsAlike p a b → IsAlike p b c → IsAlike p a c
alike_then p a b c x y = record { sound = y.sound; counts = λ d page. y.counts d page ∙ x.counts d page }

-- a number that an object has isn't the placeholder's
pub other_than : (m : Held) (P q : ℕ) (y : Placed) → get m P ≡ None → get m q ≡ Some y → q ≢ P
other_than m P q y none there is = (let e : get m P ≡ Some y = rw is at there in absurd (let z : Some y ≡ None = sym e ∙ none in cc))

module _ (p : Paging) (P : ℕ) where
  -- The arrangement stays alike if object q moves to the address of h, which is removed, and the placeholder gets the old address of q.
  pub moved_away : (m : Held) → get m P ≡ None → (h : ℕ) (x : Placed) → get m h ≡ Some x → (q : ℕ) (y : Placed) → get m q ≡ Some y → q ≢ h
      → (bytes : List ℕ) → class_at p y ≡ class_at p x → class_for p (length bytes) ≡ class_at p x → IsSound p m
      → IsAlike p m (insert (insert (remove m h) q (record { place = x.place; bytes = y.bytes })) P (record { place = y.place; bytes = bytes }))
  moved_away m none h x there q y there' ne bytes class size s =
      let qP = other_than m P q y none there' in
      let hP = other_than m P h x none there in
      let f : Placed = record { place = y.place; bytes = bytes } in
      let z : Placed = record { place = x.place; bytes = y.bytes } in
      let free : get (remove m q) P ≡ None = get_remove_other m q P (λ e. qP (sym e)) ∙ none in
      let first = exchange p m q y there' P bytes free (size ∙ sym class) s in
      let m1 : Held = insert (remove m q) P (record { place = y.place; bytes = bytes }) in
      let hq : h ≢ q = λ e. ne (sym e) in
      let x1 : get (insert (remove m q) P (record { place = y.place; bytes = bytes })) h ≡ Some x =
      get_insert_other (remove m q) P (record { place = y.place; bytes = bytes }) h hP ∙ get_remove_other m q h hq ∙ there in
      let q1 : get (remove (insert (remove m q) P (record { place = y.place; bytes = bytes })) h) q ≡ None =
      get_remove_other (insert (remove m q) P (record { place = y.place; bytes = bytes })) h q ne
      ∙ get_insert_other (remove m q) P (record { place = y.place; bytes = bytes }) q qP ∙ get_removed m q in
      let second = exchange p (insert (remove m q) P (record { place = y.place; bytes = bytes })) h x x1 q y.bytes q1 class first.sound in
      subst (IsAlike p m) (same m h q (record { place = y.place; bytes = bytes }) (record { place = x.place; bytes = y.bytes }) hP qP hq)
      (alike_then p m _ _ first second)
    where
      same : (m : Held) (h q : ℕ) (f z : Placed) → h ≢ P → q ≢ P → h ≢ q
          → insert (remove (insert (remove m q) P f) h) q z ≡ insert (insert (remove m h) q z) P f
      same m h q f z hP qP hq = equal_maps _ _ (λ r. elim (cases_eq r P) [
        | inl is ↦ rw is (get_insert_other (remove (insert (remove m q) P f) h) q z P (λ e. qP (sym e))
            ∙ get_remove_other (insert (remove m q) P f) h P (λ e. hP (sym e)) ∙ get_inserted (remove m q) P f
            ∙ sym (get_inserted (insert (remove m h) q z) P f))
        | inr nP ↦ elim (cases_eq r q) [
          | inl is ↦ rw is (get_inserted (remove (insert (remove m q) P f) h) q z
              ∙ sym (get_insert_other (insert (remove m h) q z) P f q qP ∙ get_inserted (remove m h) q z))
          | inr nq ↦ get_insert_other (remove (insert (remove m q) P f) h) q z r nq ∙ elim (cases_eq r h) [
            | inl is ↦ rw is (get_removed (insert (remove m q) P f) h
                ∙ sym (get_insert_other (insert (remove m h) q z) P f h hP ∙ get_insert_other (remove m h) q z h hq ∙ get_removed m h))
            | inr nh ↦ get_remove_other (insert (remove m q) P f) h r nh ∙ get_insert_other (remove m q) P f r nP ∙ get_remove_other m q r nq
                ∙ sym (get_insert_other (insert (remove m h) q z) P f r nP ∙ get_insert_other (remove m h) q z r nq ∙ get_remove_other m h r nh)
          ]
        ]
      ])

  -- The arrangement stays alike if an object and the placeholder, whose number is P, exchange addresses. In between, the placeholder has the number P + 1,
  -- which nothing uses.
  module _ (m : Held) (a : ℕ) (bytes : List ℕ) (q : ℕ) (y : Placed) (qP : q ≢ P) (qT : q ≢ P + 1) (none : get m (P + 1) ≡ None)
      (there : get m q ≡ Some y) (class : class_at p y ≡ class_for p (length bytes)) where
    abbrev f : Placed
    f = record { place = a; bytes = bytes }

    abbrev g : Placed
    g = record { place = y.place; bytes = bytes }

    abbrev z : Placed
    z = record { place = a; bytes = y.bytes }

    abbrev first_map : Held
    first_map = insert (remove (insert m P f) q) (P + 1) g

    abbrev second_map : Held
    second_map = insert (remove first_map P) q z

    PT : P ≢ P + 1
    PT e = absurd (omega arith)

    third_map : insert (remove second_map (P + 1)) P g ≡ insert (insert m q z) P g
    third_map = equal_maps _ _ (λ r. elim (cases_eq r P) [
      | inl is ↦ rw is (get_inserted (remove second_map (P + 1)) P g ∙ sym (get_inserted (insert m q z) P g))
      | inr nP ↦ get_insert_other (remove second_map (P + 1)) P g r nP ∙ elim (cases_eq r (P + 1)) [
        | inl is ↦ rw is (get_removed second_map (P + 1)
            ∙ sym (get_insert_other (insert m q z) P g (P + 1) (λ e. PT (sym e)) ∙ get_insert_other m q z (P + 1) (λ e. qT (sym e)) ∙ none))
        | inr nT ↦ get_remove_other second_map (P + 1) r nT ∙ elim (cases_eq r q) [
          | inl is ↦ rw is (get_inserted (remove first_map P) q z ∙ sym (get_insert_other (insert m q z) P g q qP ∙ get_inserted m q z))
          | inr nq ↦ get_insert_other (remove first_map P) q z r nq ∙ get_remove_other first_map P r nP
              ∙ get_insert_other (remove (insert m P f) q) (P + 1) g r nT ∙ get_remove_other (insert m P f) q r nq ∙ get_insert_other m P f r nP
              ∙ sym (get_insert_other (insert m q z) P g r nP ∙ get_insert_other m q z r nq)
        ]
      ]
    ])

    pub changed_places : IsSound p (insert m P f) → IsAlike p (insert m P f) (insert (insert m q z) P g)
    changed_places s =
        let y0 : get (insert m P f) q ≡ Some y = get_insert_other m P f q qP ∙ there in
        let T0 : get (remove (insert m P f) q) (P + 1) ≡ None = get_remove_other (insert m P f) q (P + 1) (λ e. qT (sym e))
        ∙ get_insert_other m P f (P + 1) (λ e. PT (sym e)) ∙ none in
        let first = exchange p (insert m P f) q y y0 (P + 1) bytes T0 (sym class) s in
        let f1 : get first_map P ≡ Some f = get_insert_other (remove (insert m P f) q) (P + 1) g P PT ∙ get_remove_other (insert m P f) q P (λ e. qP (sym e))
        ∙ get_inserted m P f in
        let q1 : get (remove first_map P) q ≡ None = get_remove_other first_map P q qP ∙ get_insert_other (remove (insert m P f) q) (P + 1) g q qT
        ∙ get_removed (insert m P f) q in
        let second = exchange p first_map P f f1 q y.bytes q1 class first.sound in
        let g2 : get second_map (P + 1) ≡ Some g = get_insert_other (remove first_map P) q z (P + 1) (λ e. qT (sym e))
        ∙ get_remove_other first_map P (P + 1) (λ e. PT (sym e)) ∙ get_inserted (remove (insert m P f) q) (P + 1) g in
        let P2 : get (remove second_map (P + 1)) P ≡ None = get_remove_other second_map (P + 1) P PT
        ∙ get_insert_other (remove first_map P) q z P (λ e. qP (sym e)) ∙ get_removed first_map P in
        let third = exchange p second_map (P + 1) g g2 P bytes P2 refl second.sound in
        subst (IsAlike p (insert m P f)) third_map (alike_then p _ _ _ (alike_then p _ _ _ first second) third)

-- a job stays valid if every object stays live and in its class
pub job_stays : (p : Paging) (m n : Held) (j : Job) → ((q : ℕ) (y : Placed) → get m q ≡ Some y
    → (z : Placed) × (get n q ≡ Some z) × (class_at p z ≡ class_at p y))
    → IsJobOf p m j → IsJobOf p n j
job_stays p m n Idle stays is = tt
job_stays p m n (Clear k) stays is = is
job_stays p m n (Move h k) stays is = (let o = is.1 in let z = stays h o.0 o.1 in (is.0, (z.0, z.1, z.2 ∙ o.2)))

-- the placeholder is the same, however many words of the job are done
pub slot_stays : (plan : Plan) (m : Held) (j : Job) (d : ℕ) → with_slot plan m (job_slot (advanced j d)) ≡ with_slot plan m (job_slot j)
slot_stays plan m Idle d = refl
slot_stays plan m (Clear k) d = refl
slot_stays plan m (Move h k) d = refl

job_goes_on : (p : Paging) (m : Held) (j : Job) (d : ℕ) → ((k : JobSlot) → job_slot j ≡ Some k → d < slot_words p k.class) → IsJobOf p m j
    → IsJobOf p m (advanced j d)
job_goes_on p m Idle d lt is = tt
job_goes_on p m (Clear k) d lt is = record { class = is.class; under_way = lt k refl }
job_goes_on p m (Move h k) d lt is = (record { class = is.0.class; under_way = lt k refl }, is.1)

-- Of a page with n objects and s slots: if it counts as partly full, it has an object and a free slot; if it has an object and doesn't count, it is full
-- (`full_shown`).
part_shown : (n s : ℕ) → one (part_full n s) ≡ 1 → (0 < n) × (n < s)
part_shown n s is = elim (cases_lt 0 n) [
  | inr none ↦ absurd (let z = part_empty n s (omega arith) in omega arith)
  | inl some ↦ elim (cases_lt n s) [
    | inl less ↦ (some, less)
    | inr over ↦ absurd (let z = part_over n s over in omega arith)
  ]
]

full_shown : (n s : ℕ) → 0 < n → one (part_full n s) ≡ 0 → s ≤ n
full_shown n s some is = elim (cases_lt n s) [
  | inl less ↦ absurd (let y = part_yes n s some less in omega arith)
  | inr over ↦ over
]

module _ (plan : Plan) (ok : IsPlan plan) where
  -- a malloc keeps the rules
  pub kept_malloc : (old : Sliced) → IsKept plan old → (asked : Request) (new : Sliced) → AddsSlicedObject plan old asked new → IsKept plan new
  kept_malloc old kept asked new g =
      let len : length (replicate asked.length 0) ≡ asked.length = length-replicate {A = ℕ} asked.length 0 in
      let free = place_is_free plan ok old kept asked.length g.place g.free in
      let none : get (occupied plan old) asked.number ≡ None = get_beside plan old.held (job_slot old.job) asked.number g.in_range ∙ g.unused in
      let sound = sound_placed plan.paging (occupied plan old) asked.number (zeros_at g.place asked.length) none ok.paging kept.sound (rw len free) in
      let e = g.placed in
      rw e (record {
        numbers = λ q y there. elim (some_inserted old.held asked.number (zeros_at g.place asked.length) q y there) [
          | inl (is, _) ↦ rw is g.in_range
          | inr (_, was) ↦ kept.numbers q y was
        ];
        job = job_stays plan.paging old.held (insert old.held asked.number (zeros_at g.place asked.length)) old.job
            (λ q y there. (y, (still old.held asked.number (zeros_at g.place asked.length) g.unused q y there).1, refl)) kept.job;
        sound = subst (IsSound plan.paging) (inserted_beside plan old.held (job_slot old.job) asked.number (zeros_at g.place asked.length) g.in_range) sound;
      })

  -- a write keeps the rules: an object gets other bytes of the same length
  pub kept_write : (old : Sliced) → IsKept plan old → (h : ℕ) (x : Placed) → get old.held h ≡ Some x → (bytes : List ℕ) → length bytes ≡ length x.bytes
      → IsKept plan (record old { held = insert old.held h (record { place = x.place; bytes = bytes }) })
  kept_write old kept h x there bytes len =
      let lt = kept.numbers h x there in
      let z : Placed = record { place = x.place; bytes = bytes } in
      let class : class_at plan.paging (record { place = x.place; bytes = bytes }) ≡ class_at plan.paging x = ap (class_for plan.paging) len in
      let all : Held = occupied plan old in
      let there' : get (occupied plan old) h ≡ Some x = get_beside plan old.held (job_slot old.job) h lt ∙ there in
      let sound = sound_exchanged plan.paging (occupied plan old) h x there' h bytes (get_removed (occupied plan old) h) class kept.sound in
      let again = insert_again (occupied plan old) h (record { place = x.place; bytes = bytes }) in
      record {
        numbers = λ q y there'. elim (some_inserted old.held h (record { place = x.place; bytes = bytes }) q y there') [
          | inl (is, _) ↦ rw is lt
          | inr (_, was) ↦ kept.numbers q y was
        ];
        job = job_stays plan.paging old.held (insert old.held h (record { place = x.place; bytes = bytes })) old.job
            (λ q y was. elim (cases_eq q h) [
              | inl is ↦ (
                record { place = x.place; bytes = bytes },
                rw is (get_inserted old.held h (record { place = x.place; bytes = bytes })),
                (let e : Some y ≡ Some x = sym was ∙ ap (get old.held) is ∙ there in let same : y ≡ x = cc in rw same class),
              )
              | inr ne ↦ (y, get_insert_other old.held h (record { place = x.place; bytes = bytes }) q ne ∙ was, refl)
            ]) kept.job;
        sound = subst (IsSound plan.paging) (again ∙ inserted_beside plan old.held (job_slot old.job) h (record { place = x.place; bytes = bytes }) lt) sound;
      }

  -- a free, before its first slice, keeps the rules: the job's slot is the freed one or, if an object moves there, the old slot of that object
  pub kept_begun : (m : Held) → IsKept plan (record { held = m; job = Idle }) → (h : ℕ) (x : Placed) → get m h ≡ Some x → (moved : Option ℕ)
      → Moves plan.paging m x moved → (new : Sliced) → LeavesJob (remove m h) x.place (class_at plan.paging x) moved new → IsKept plan new
  kept_begun m kept h x there None never new is =
      let none = no_placeholder plan m kept.numbers in
      let c : ℕ = class_at plan.paging x in
      let lt = (kept.sound.slots h x there).class in
      let class = placeholder_class plan.paging ok.paging (fresh_slot x.place (class_at plan.paging x)) lt in
      let size = ok.paging.sized.least (class_at plan.paging x) lt in
      let ne = other_than m plan.proxies h x none there in
      rw is (record {
        numbers = λ q y there'. kept.numbers q y (some_removed m h q y there').1;
        job = record { class = lt; under_way = omega arith };
        sound = sound_exchanged plan.paging m h x there plan.proxies (replicate (8 * (slot_words plan.paging (class_at plan.paging x) - 1)) 0)
            (get_remove_other m h plan.proxies (λ e. ne (sym e)) ∙ none) class kept.sound;
      })
  kept_begun m kept h x there (Some q) (must, (y, there', may)) new is =
      let none = no_placeholder plan m kept.numbers in
      let lt = (kept.sound.slots h x there).class in
      let class = placeholder_class plan.paging ok.paging (fresh_slot y.place (class_at plan.paging x)) lt in
      let size = ok.paging.sized.least (class_at plan.paging x) lt in
      let ne = mover_is_other plan.paging ok.paging m kept.sound h x there q y there' must may in
      let alike = moved_away plan.paging plan.proxies m none h x there q y there' ne
      (replicate (8 * (slot_words plan.paging (class_at plan.paging x) - 1)) 0) may.class class kept.sound in
      let found : Some is.object ≡ Some y = sym is.found ∙ get_remove_other m h q ne ∙ there' in
      let same : is.object ≡ y = cc in
      let e : new ≡ record {
        held = insert (remove m h) q (record { place = x.place; bytes = y.bytes });
        job =
            Move q (fresh_slot y.place (class_at plan.paging x));
      } =
      is.whole ∙ ap (λ (o : Placed). record {
        held = insert (remove m h) q (record { place = x.place; bytes = o.bytes });
        job = Move q (fresh_slot o.place (class_at plan.paging x));
      }) same in
      rw e (record {
        numbers = λ r z there''. elim (some_inserted (remove m h) q (record { place = x.place; bytes = y.bytes }) r z there'') [
          | inl (is', _) ↦ rw is' (kept.numbers q y there')
          | inr (_, was) ↦ kept.numbers r z (some_removed m h r z was).1
        ];
        job = (
          record { class = lt; under_way = omega arith },
          (record { place = x.place; bytes = y.bytes }, get_inserted (remove m h) q (record { place = x.place; bytes = y.bytes }), may.class),
        );
        sound = alike.sound;
      })

  -- m are the objects, `all` the objects with the placeholder in slot k. In m two pages of the job's class are partly full if and only if a free of slot k would
  -- have to move an object.
  module _ (m : Held) (k : JobSlot) (none : get m plan.proxies ≡ None) (class : k.class < classes plan.paging)
      (s : IsSound plan.paging (insert m plan.proxies (placeholder plan.paging k))) where
    abbrev all : Held
    all = insert m plan.proxies (placeholder plan.paging k)

    abbrev page : ℕ
    page = page_of plan.paging k.address

    here : get all plan.proxies ≡ Some (placeholder plan.paging k)
    here = get_inserted m plan.proxies (placeholder plan.paging k)

    of_class : class_at plan.paging (placeholder plan.paging k) ≡ k.class
    of_class = placeholder_class plan.paging ok.paging k class

    -- the placeholder counts as one object more on the page of the slot, and changes no other page
    pub one_more : objects_on plan.paging all k.class page ≡ objects_on plan.paging m k.class page + 1
    one_more =
        let i = objects_on-inserted plan.paging m plan.proxies (placeholder plan.paging k) none k.class page in
        let yes = on_yes plan.paging k.class page (placeholder plan.paging k) refl of_class in
        rw yes at i

    pub same_elsewhere : (g : ℕ) → g ≢ page → objects_on plan.paging all k.class g ≡ objects_on plan.paging m k.class g
    same_elsewhere g ne = objects_on-elsewhere plan.paging m plan.proxies (placeholder plan.paging k) none k.class g (inl (λ e. ne (sym e)))

    pub same_class : (c : ℕ) → c ≢ k.class → (g : ℕ) → objects_on plan.paging all c g ≡ objects_on plan.paging m c g
    same_class c ne g = objects_on-elsewhere plan.paging m plan.proxies (placeholder plan.paging k) none c g (inr (λ e. ne (sym e ∙ of_class)))

    pub pages_differ : not_full_pages plan.paging all k.class + one (part_full (objects_on plan.paging m k.class page) (slots_of plan.paging k.class))
        ≡ not_full_pages plan.paging m k.class + one (part_full (objects_on plan.paging all k.class page) (slots_of plan.paging k.class))
    unfolding not_full_pages
    pages_differ = count_changed (λ g. part_full (objects_on plan.paging all k.class g) (slots_of plan.paging k.class))
        (λ g. part_full (objects_on plan.paging m k.class g) (slots_of plan.paging k.class)) 0 plan.paging.pages page (omega arith)
        (let within = (s.slots plan.proxies (placeholder plan.paging k) here).page in omega arith)
        (λ g ne. ap (λ n. part_full n (slots_of plan.paging k.class)) (same_elsewhere g ne))

    few : not_full_pages plan.paging all k.class ≤ 1
    few = (let f = s.few_not_full k.class class in let o = ok.ones k.class class in omega arith)

    pub must_is_two : MustMove plan.paging all (placeholder plan.paging k) → not_full_pages plan.paging m k.class ≡ 2
    must_is_two must =
        let full : objects_on plan.paging all k.class page ≡ slots_of plan.paging k.class = rw of_class at must.full in
        let several : 1 < slots_of plan.paging k.class = rw of_class at must.several in
        let many : not_full_pages plan.paging all k.class ≡ 1 = rw of_class at must.many ∙ ok.ones k.class class in
        let more = one_more in
        let d = pages_differ in
        let yes = part_yes (objects_on plan.paging m k.class page) (slots_of plan.paging k.class) (omega arith) (omega arith) in
        let no = part_over (objects_on plan.paging all k.class page) (slots_of plan.paging k.class) (omega arith) in
        omega arith

    -- what holds if two pages of the class are partly full in m: the slot fills its page, which held an object, and one other page is partly full
    pub record IsLast : Type 0 where
      pub some : 0 < objects_on plan.paging m k.class page
      pub filled : objects_on plan.paging m k.class page + 1 ≡ slots_of plan.paging k.class
      pub other : not_full_pages plan.paging all k.class ≡ 1

    pub two_is_last : not_full_pages plan.paging m k.class ≡ 2 → IsLast
    two_is_last two =
        let d = pages_differ in
        let f = few in
        let a = one_le (part_full (objects_on plan.paging m k.class page) (slots_of plan.paging k.class)) in
        let more = one_more in
        let part : one (part_full (objects_on plan.paging m k.class page) (slots_of plan.paging k.class)) ≡ 1 = omega arith in
        let none' : one (part_full (objects_on plan.paging all k.class page) (slots_of plan.paging k.class)) ≡ 0 = omega arith in
        let b = part_shown (objects_on plan.paging m k.class page) (slots_of plan.paging k.class) part in
        let c = full_shown (objects_on plan.paging all k.class page) (slots_of plan.paging k.class) (omega arith) none' in
        record { some = b.0; filled = (let x = b.1 in omega arith); other = omega arith }

    pub two_is_must : not_full_pages plan.paging m k.class ≡ 2 → MustMove plan.paging all (placeholder plan.paging k)
    two_is_must two =
        let l = two_is_last two in
        let some = l.some in
        let filled = l.filled in
        let more = one_more in
        record {
          full = rw of_class (omega arith);
          several = rw of_class (omega arith);
          many = rw (of_class, ok.ones k.class class) l.other;
        }

    -- in m at most two pages of the class are partly full
    pub at_most_two : not_full_pages plan.paging m k.class ≤ 2
    at_most_two = (let d = pages_differ in let f = few in
        let a = one_le (part_full (objects_on plan.paging m k.class page) (slots_of plan.paging k.class)) in omega arith)

    -- the arrangement m is sound unless two pages of the class are partly full
    pub sound_without_slot : not_full_pages plan.paging m k.class ≢ 2 → IsSound plan.paging m
    sound_without_slot ne =
        let s' = sound_without plan.paging ok.paging all s plan.proxies (placeholder plan.paging k) here None (λ must. ne (must_is_two must)) in
        subst (IsSound plan.paging) (remove_fresh m plan.proxies (placeholder plan.paging k) none) s'

  ended : (m : Held) (j : Job) (k : JobSlot) → job_slot j ≡ Some k → IsKept plan (record { held = m; job = j }) → (new : Sliced)
      → EndsJob plan.paging m k new → IsKept plan new
  ended m j k is kept new (inl (ne, whole)) =
      let none = no_placeholder plan m kept.numbers in
      let class = (job_class plan.paging m j kept.job k is).class in
      let s : IsSound plan.paging (insert m plan.proxies (placeholder plan.paging k)) = subst (λ o. IsSound plan.paging (with_slot plan m o)) is kept.sound in
      rw whole (record { numbers = kept.numbers; job = tt; sound = sound_without_slot m k none class s ne })
  ended m j k is kept new (inr chains) =
      let none = no_placeholder plan m kept.numbers in
      let class = (job_class plan.paging m j kept.job k is).class in
      let size = ok.paging.sized.least k.class class in
      let s : IsSound plan.paging (insert m plan.proxies (placeholder plan.paging k)) = subst (λ o. IsSound plan.paging (with_slot plan m o)) is kept.sound in
      let carries = chains.carries in
      let q : ℕ = chains.object in
      let y : Placed = carries.object in
      let there : get m chains.object ≡ Some carries.object = carries.found in
      let found : Some chains.beside.object ≡ Some carries.object = sym chains.beside.found ∙ there in
      let same : chains.beside.object ≡ carries.object = cc in
      let is_class : class_at plan.paging carries.object ≡ k.class = rw same at chains.beside.class in
      let low = kept.numbers chains.object carries.object there in
      let qP = other_than m plan.proxies chains.object carries.object none there in
      let qT : chains.object ≢ plan.proxies + 1 = (λ e. absurd (omega arith)) in
      let none' = past m (get m (plan.proxies + 1)) refl kept.numbers in
      let alike = changed_places plan.paging plan.proxies m k.address (replicate (8 * (slot_words plan.paging k.class - 1)) 0) chains.object carries.object
      qP qT none' there (is_class ∙ sym (placeholder_class plan.paging ok.paging k class)) s in
      let e = carries.whole in
      rw e (record {
        numbers = λ r z there'. elim (some_inserted m chains.object (record { place = k.address; bytes = carries.object.bytes }) r z there') [
          | inl (is', _) ↦ rw is' low
          | inr (_, was) ↦ kept.numbers r z was
        ];
        job = (
          record { class = class; under_way = omega arith },
          (
            record { place = k.address; bytes = carries.object.bytes },
            get_inserted m chains.object (record { place = k.address; bytes = carries.object.bytes }),
            is_class,
          ),
        );
        sound = alike.sound;
      })
    where
      past : (m : Held) (o : Option Placed) → get m (plan.proxies + 1) ≡ o → ((h : ℕ) (x : Placed) → get m h ≡ Some x → h < plan.proxies)
          → get m (plan.proxies + 1) ≡ None
      past m None e low = e
      past m (Some x) e low = absurd (let l = low (plan.proxies + 1) x e in omega arith)

  -- a slice keeps the rules
  pub kept_slice : (old new : Sliced) → IsKept plan old → IsSlice plan old new → IsKept plan new
  kept_slice old new kept slice = go (job_slot old.job) refl slice
    where
      go : (o : Option JobSlot) → job_slot old.job ≡ o → SliceOf plan old o new → IsKept plan new
      go None e same = rw same kept
      go (Some k) e (inl on) = (let w = on.whole in rw w (record {
        numbers = kept.numbers;
        job = job_goes_on plan.paging old.held old.job (done_after plan k) (λ g is. (let same : k ≡ g = (let e' : Some k ≡ Some g = sym e ∙ is in cc) in
            rw (← same) on.left)) kept.job;
        sound = rw (slot_stays plan old.held old.job (done_after plan k)) kept.sound;
      }))
      go (Some k) e (inr done) = ended old.held old.job k e kept new done.ends

  -- a free, with its first slice, keeps the rules
  pub kept_free : (old : Sliced) → IsKept plan old → (h : ℕ) (new : Sliced) → RemovesSlicedObject plan old h new → IsKept plan new
  kept_free old kept h new r =
      let idle : IsKept plan (record { held = old.held; job = Idle }) = subst (λ j. IsKept plan (record { held = old.held; job = j })) r.idle kept in
      kept_slice r.begun new (kept_begun old.held idle h r.freed r.found r.moved r.moves r.begun r.begins) r.slice
