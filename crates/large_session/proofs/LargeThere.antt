-- Each call of a heap of long objects has a result and a state after it, composed from those of the inner manager.
use Rattle.std.proofs.Common.{◌≡◌, ℕ, zero, suc, ◌+◌, ◌<◌, ◌≤◌, List, [], ◌∷◌, Some, None, length, get_or, arith, sym, ◌∙◌, ap, refl, subst, inl, inr, ◌*◌, ◌-◌, ◌/◌, ◌%◌, true, set, take, drop, min, Option, option_map, Result, Ok, Err, codes, ◌⊎◌, IsTrue}
use Rattle.std.specs.Option.{MatchOption}
use Rattle.run_model.specs.Terms.{AreBytes, AreTied, CostsAtMost, Free, get, Handle, HeapState, Ids, insert, IsGoing, KeepsRules, Malloc, Objects, objects, paging_in, Placed, Refusal, Reply, RunState, SessionState, Write, written}
use Rattle.std.proofs.lemmas.Bool.{cases_lt}
use Rattle.std.proofs.lemmas.List.{get_or_past, length-drop, length-take}
use Rattle.std.proofs.lemmas.Option.{same_Some}
use Rattle.cf_base.specs.Maps.{numbered}
use Rattle.cf_base.proofs.Numbered.{get-numbered}
use Rattle.cf_model.specs.Ordered.{IsOrderedMalloc}
use Rattle.cf_model.specs.Steps.{IsMallocStep}
use Rattle.run_model.specs.Steps.{Frees, Mallocs, Stays, Writes}
use Rattle.script_laws.proofs.CallerLemmas.{step_exists}
use Rattle.large_objects.specs.InnerCalls.{FreesInner, MakesOneInner, HasInner, HasInnerRoom, IsReadyInner, WritesInner}
use Rattle.page_model.proofs.CallerLemmas.{held_of_bytes, bytes_part}
use Rattle.large_objects.proofs.CallerLemmas.{inner_freed, inner_given, inner_not_refused, inner_written, grows_first, grows_more, inner_beside, part_named, place_in_spine, room_for_part, room_for_short, room_for_spine, next_there, releases_long, shrinks_first, shrinks_more, spine_is_live, inside_part, is_ready, next_write, so_far_more, then_kept, wrote_all, wrote_nothing, all_gathered, handle_below, gone_frees, gone_kept, has_inner_objects, long_kept, long_writes, made_gives, made_kept, object_room, part_there, same_kept, short_kept, short_inner, short_writes, some_words}
use Rattle.std.specs.Int.{to_le_bytes, w32}
use Rattle.large_objects.specs.Growing.{GrowsInner, HasObjectRoom, MakesInner}
use Rattle.large_objects.specs.Large.{named, KeepsParts, LargeState}
use Rattle.large_objects.specs.InnerObjects.{part_length, part_count, spine_bytes, inner_count, inner_pages_with, inner_lengths}
use Rattle.large_objects.specs.Shrinking.{HasInnerObjects, HasParts, ReleasesInner, Shrinks}
use Rattle.large_objects.specs.LargeSteps.{FreesLarge, GivesLarge, HasLong, HasPartRange, HasLargeRoom, HasShort, IsRefusedLarge, StaysKept, WritesLarge, part_bytes_in}
use Rattle.large_objects.specs.Layout.{AreKept, AreLengths, IsValid, gathered_objects, large_state}
use Rattle.cf_base.specs.declared.results.Refusal.TheVariants as refusal

-- An inner manager has a state after each malloc with room, free or write of an inner object: it is the state of a run whose ids are the live handles, and
-- each command of a run has a reply.

-- the n values of f from k on
abbrev pub listed : {X : Type 0} → (ℕ → Option X) → ℕ → ℕ → List (Option X)
listed f k zero = []
listed f k (suc n) = f k ∷ listed f (k + 1) n

module _ {X : Type 0} (f : ℕ → Option X) where
  pub length-listed : (k n : ℕ) → length (listed f k n) ≡ n
  length-listed k zero = refl
  length-listed k (suc n) = omega (arith, length-listed (k + 1) n)

  listed_at : (k n i q : ℕ) → i < n → q ≡ k + i → get_or (listed f k n) i None ≡ f q
  listed_at k zero i q lt is = absurd (omega arith)
  listed_at k (suc n) zero q lt is = (let e : k ≡ q = omega arith in ap f e)
  listed_at k (suc n) (suc i) q lt is = listed_at (k + 1) n i q (omega arith) (omega arith)

  -- the first n values are all values of f, if f has none from n on
  pub listed_is : (n : ℕ) → ((q : ℕ) → n ≤ q → f q ≡ None) → (q : ℕ) → get_or (listed f 0 n) q None ≡ f q
  listed_is n none q = elim (cases_lt q n) [
    | inl lt ↦ listed_at 0 n q q lt (omega arith)
    | inr past ↦ get_or_past (listed f 0 n) q None (let l = length-listed 0 n in omega arith) ∙ sym (none q past)
  ]

module _ (s : HeapState) (ready : IsReadyInner s) where
  abbrev own : ℕ → Option ℕ
  own q = option_map (λ (x : Placed). q) (get s.held q)

  own_past : (q : ℕ) → s.profile.proxies ≤ q → own q ≡ None
  own_past q past = go (get s.held q) refl
    where
      go : (o : Option Placed) → get s.held q ≡ o → own q ≡ None
      go None none = ap (option_map (λ (x : Placed). q)) none
      go (Some x) some = absurd (let lt = ready.rules.numbers.handles q x some in omega arith)

  abbrev ids : Ids
  ids = numbered 0 (listed own 0 s.profile.proxies)

  id_is : (q : ℕ) → get ids q ≡ own q
  id_is q = get-numbered (listed own 0 s.profile.proxies) q ∙ listed_is own s.profile.proxies own_past q

  id_live : (id h : ℕ) → get ids id ≡ Some h → (h ≡ id) × ((x : Placed) × (get s.held id ≡ Some x))
  id_live id h is = go (get s.held id) refl (sym (id_is id) ∙ is)
    where
      go : (o : Option Placed) → get s.held id ≡ o → option_map (λ (x : Placed). id) o ≡ Some h → (h ≡ id) × ((x : Placed) × (get s.held id ≡ Some x))
      go None none e = absurd (let z : ◌≡◌ {A = Option ℕ} None (Some h) = e in cc)
      go (Some x) some e = (sym (same_Some id h e), (x, some))

  abbrev session : SessionState
  session = record { ids = ids; bound = s.cost; moves = 0; words = 0 }

  abbrev run : RunState
  run = record { session = session; heap = s }

  costs : CostsAtMost s.kind s.cost s.cost
  costs = rw (ready.pages, CostsAtMost) (omega arith)

  tied : AreTied session s
  tied = record {
    ids = record {
      named = λ id h is. (let l = id_live id h is in (l.1.0, ap (get s.held) l.0 ∙ l.1.1));
      once = λ id other h is also. (let l = id_live id h is in let m = id_live other h also in sym m.0 ∙ l.0);
      all = λ h x is. (h, id_is h ∙ ap (option_map (λ (x : Placed). h)) is);
    };
    cost = costs;
  }

  going : IsGoing run
  going = record { opened = ready.opened; rules = ready.rules; tied = tied }

  -- an inner object is made, if there is room
  pub gives_there : (n : ℕ) → HasInnerRoom s n → (q : ℕ) × (new : HeapState) × MakesOneInner s q n new
  gives_there n room =
      let t = step_exists run (Malloc s.profile.proxies n) going (record { formed = tt; bytes = tt }) in
      let m = of_free t.0 t.1 (get ids s.profile.proxies) (id_is s.profile.proxies ∙ own_past s.profile.proxies (omega arith)) t.2.step in
      by_answer t.1.heap m.answer m.step m.ordered m.rules
    where
      of_free : (reply : Reply) (new : RunState) (o : Option ℕ) → o ≡ None
          → MatchOption o (Mallocs run (record { number = s.profile.proxies; length = n }) reply new) (λ h. Stays run (codes "live") reply new)
          → Mallocs run (record { number = s.profile.proxies; length = n }) reply new
      of_free reply new None none m = m
      of_free reply new (Some h) none m = absurd (let z : ◌≡◌ {A = Option ℕ} (Some h) None = none in cc)

      by_answer : (new : HeapState) (r : Result Handle Refusal) → IsMallocStep s n r new → IsOrderedMalloc s n r new → KeepsRules new
          → (q : ℕ) × (new : HeapState) × MakesOneInner s q n new
      by_answer new (Ok h) given ordered rules = (h.0, new, inner_given s new h n ready given ordered rules)
      by_answer new (Err e) (cause, same) ordered rules = absurd (inner_not_refused s n ready room e cause)

  -- a live inner object is freed
  pub frees_there : (q : ℕ) → HasInner s q 0 0 → (new : HeapState) × FreesInner s q new
  frees_there q has =
      let x = held_of_bytes s.held q has.bytes has.found in
      let t = step_exists run (Free q) going (record { formed = tt; bytes = tt }) in
      let f = of_live t.0 t.1 (get ids q) (id_is q ∙ ap (option_map (λ (x : Placed). q)) x.1) t.2.step in
      (t.1.heap, inner_freed s t.1.heap q has.bytes (Ok f.freed) ready has.found f.step f.ordered f.rules)
    where
      of_live : (reply : Reply) (new : RunState) (o : Option ℕ) → o ≡ Some q
          → MatchOption o (Stays run (codes "unknown") reply new) (λ h. Frees run (record { id = q; number = h }) reply new)
          → Frees run (record { id = q; number = q }) reply new
      of_live reply new None live f = absurd (let z : ◌≡◌ {A = Option ℕ} None (Some q) = live in cc)
      of_live reply new (Some h) live f = (let e = same_Some h q live in subst (λ k. Frees run (record { id = q; number = k }) reply new) e f)

  -- bytes are written into a live inner object: at most 4,096, as in a command `w`
  pub writes_there : (q at : ℕ) (bytes : List ℕ) → HasInner s q at (length bytes) → AreBytes bytes → 1 ≤ length bytes → length bytes ≤ 4096
      → (new : HeapState) × WritesInner s q at bytes new
  writes_there q at bytes has are some few =
      let x = held_of_bytes s.held q has.bytes has.found in
      let t = step_exists run (Write q at bytes) going (record { formed = (some, few); bytes = are }) in
      let w = of_live t.0 t.1 (get ids q) (id_is q ∙ ap (option_map (λ (x : Placed). q)) x.1) t.2.step in
      (t.1.heap, inner_written s t.1.heap (record { number = q; from = at }) bytes w.answer ready has w.step w.rules)
    where
      of_live : (reply : Reply) (new : RunState) (o : Option ℕ) → o ≡ Some q
          → MatchOption o (Stays run (codes "unknown") reply new) (λ h. Writes run (record { number = h; from = at }) bytes reply new)
          → Writes run (record { number = q; from = at }) bytes reply new
      of_live reply new None live w = absurd (let z : ◌≡◌ {A = Option ℕ} None (Some q) = live in cc)
      of_live reply new (Some h) live w = (let e = same_Some h q live in subst (λ k. Writes run (record { number = k; from = at }) bytes reply new) e w)

-- For the proof that each call has a result: if there is room, the inner manager has a state after all inner objects of a new object are made, and one after
-- those of a live object are freed.

-- the bytes of a handle
handle_bytes : (q : ℕ) → AreBytes (to_le_bytes w32 q)
handle_bytes q zero = omega arith
handle_bytes q (suc zero) = omega arith
handle_bytes q (suc (suc zero)) = omega arith
handle_bytes q (suc (suc (suc zero))) = omega arith
handle_bytes q (suc (suc (suc (suc i)))) = omega arith

module _ (u n : ℕ) (old : HeapState) (some : 0 < u) (room : HasObjectRoom u n old) where
  module _ (long : u < n) (h : ℕ) where
    -- one part more
    grown_more : (i : ℕ) (now : HeapState) → GrowsInner u n old h i now → i < part_count u n → (next : HeapState) × GrowsInner u n old h (i + 1) next
    grown_more i now g below =
        let p = gives_there now g.stays.ready (part_length u n i) (room_for_part u n old now h i some long room g below) in
        let place = place_in_spine u n old now h i some long room g below in
        let w = writes_there p.1 p.2.stays.ready h (4 * i) (to_le_bytes w32 p.0) (inner_beside now p.1 h p.0 (part_length u n i) (4 * i) 4 p.2 place)
        (handle_bytes p.0) (omega arith) (omega arith) in
        (w.0, grows_more u n old now h i some long room g below w.0 (part_named now p.1 w.0 h i (part_length u n i) p.0 p.2 place.bytes place.found w.1))

    grown : (k : ℕ) (first : HeapState) → GrowsInner u n old h 0 first → k ≤ part_count u n → (now : HeapState) × GrowsInner u n old h k now
    grown zero first g few = (first, g)
    grown (suc k) first g few =
        let before = grown k first g (omega arith) in
        let next = grown_more k before.0 before.1 (omega arith) in
        (next.0, subst (λ j. GrowsInner u n old h j next.0) (let e : k + 1 ≡ suc k = omega arith in e) next.1)

  pub makes_there : (h : ℕ) × (new : HeapState) × MakesInner u n old h new
  makes_there = elim (cases_lt u n) [
    | inl long ↦ (
        let g = gives_there old room.ready (spine_bytes u n) (room_for_spine u n old some long room) in
        let all = grown long g.0 (part_count u n) g.1 (grows_first u n old g.1 g.0 some long g.2) (omega arith) in
        (g.0, all.0, inr (record { long = long; grown = all.1 })))
    | inr short ↦ (
        let g = gives_there old room.ready n (room_for_short u n old some short room) in
        (g.0, g.1, inl (record { short = short; stays = g.2.stays; unused = g.2.unused; left = g.2.left })))
  ]

module _ (u n : ℕ) (old : HeapState) (h : ℕ) (some : 0 < u) (ready : IsReadyInner old) where
  module _ (long : u < n) (has : HasParts u n (objects old.held) h) where
    shrunk : (k : ℕ) → k ≤ part_count u n → (now : HeapState) × Shrinks u n old h k now
    shrunk zero few = (old, shrinks_first u n old h some long has ready)
    shrunk (suc k) few =
        let before = shrunk k (omega arith) in
        let there = next_there u n old before.0 h k some long has before.1 (omega arith) in
        let f = frees_there before.0 before.1.stays.ready (named (objects before.0.held) h k) there in (
          f.0,
          subst (λ j. Shrinks u n old h j f.0) (let e : k + 1 ≡ suc k = omega arith in e)
              (shrinks_more u n old before.0 h k some long has before.1 (omega arith) f.0 f.1),
        )

    released : (new : HeapState) × ReleasesInner u n old h new
    released =
        let all = shrunk (part_count u n) (omega arith) in
        let f = frees_there all.0 all.1.stays.ready h (spine_is_live u n old all.0 h has all.1) in
        (f.0, inr (releases_long u n old all.0 f.0 h long all.1 f.1))

  pub releases_there : HasInnerObjects u n old h → (new : HeapState) × ReleasesInner u n old h new
  releases_there (inl (short, (v, found, long))) =
      let f = frees_there old ready h (record { bytes = v; found = found; within = omega arith }) in
      (f.0, inl (record { short = short; stays = f.1.stays; left = f.1.left }))
  releases_there (inr (long, has)) = released long has

-- Each call of a heap of long objects has a result and a state after it that its contract allows: a malloc with room, or a cause to refuse it; a free; and a
-- write, part by part.

module _ (old : LargeState) (opened : IsTrue old.is_open) (kept : KeepsParts old) where
  abbrev u : ℕ
  u = part_bytes_in old

  abbrev s : HeapState
  s = old.inner

  ready : IsReadyInner old.inner
  ready = is_ready old kept

  -- a page has more than its header
  some : 0 < part_bytes_in old
  some = (let words = some_words old.inner.profile.page_words kept.rules.settings.page_size in omega arith)

  abbrev length_at : ℕ → Option ℕ
  length_at q = option_map length (get old.objects q)

  object_below : (q : ℕ) (v : List ℕ) → get old.objects q ≡ Some v → q < old.inner.profile.proxies
  object_below q v found = elim (cases_lt (part_bytes_in old) (length v)) [
    | inl long ↦ (let spine = kept.laid.spines q v found long in handle_below old.inner ready q spine.spine spine.found)
    | inr short ↦ handle_below old.inner ready q v (kept.laid.small q v found short)
  ]

  length_past : (q : ℕ) → old.inner.profile.proxies ≤ q → length_at q ≡ None
  length_past q past = go (get old.objects q) refl
    where
      go : (o : Option (List ℕ)) → get old.objects q ≡ o → length_at q ≡ None
      go None none = ap (option_map length) none
      go (Some v) found = absurd (let lt = object_below q v found in omega arith)

  abbrev lengths : List (Option ℕ)
  lengths = listed length_at 0 old.inner.profile.proxies

  known : AreLengths lengths old.objects old.inner.profile.proxies
  known = record {
    count = length-listed length_at 0 old.inner.profile.proxies;
    each = listed_is length_at old.inner.profile.proxies length_past;
  }

  gathered : gathered_objects u lengths (objects old.inner.held) ≡ old.objects
  gathered = all_gathered u old.inner.profile.proxies lengths old.objects (objects old.inner.held) some kept.laid known

  whole : record { is_open = true; objects = old.objects; inner = old.inner } ≡ old
  whole = ap (λ b. record { is_open = b; objects = old.objects; inner = old.inner }) (let e : true ≡ old.is_open = sym opened in e)

  view : large_state true u lengths old.inner ≡ old
  view = ap (λ (o : Objects). record { is_open = true; objects = o; inner = old.inner }) gathered ∙ whole

  valid : IsValid true old.inner.profile.pages u lengths old.inner
  valid = subst (λ (o : Objects). AreKept old.inner.profile.pages u lengths o old.inner) (sym gathered) (record {
    parts = subst (λ (x : LargeState). KeepsParts x) (sym whole) kept;
    lengths_are = known;
    part_bytes = refl;
    some = some;
    pages_are = refl;
  })

  -- an object is made, if there is room
  pub malloc_there : (n : ℕ) → HasLargeRoom old n → (h : ℕ) × (new : LargeState) × GivesLarge old h n new × StaysKept old new
  malloc_there n room =
      let m = makes_there u n old.inner some (object_room true old.inner.profile.pages u lengths old.inner old view opened valid n room) in (
        m.0,
        large_state true u (set lengths m.0 (Some n)) m.1,
        made_gives true old.inner.profile.pages u lengths old.inner old view opened valid n m.0 m.1 room m.2,
        made_kept true old.inner.profile.pages u lengths old.inner old view opened valid n m.0 m.1 room m.2,
      )

  -- either there is room for an object, or a cause of a refusal holds
  pub room_or_cause : (n : ℕ) → HasLargeRoom old n ⊎ ((e : Refusal) × IsRefusedLarge old n e)
  room_or_cause n = elim (cases_lt u n) [
    | inl long ↦ elim (cases_lt u (spine_bytes u n)) [
      | inl past ↦ inr (refusal.Size, record { long = long; past = past })
      | inr fits ↦ by_proxies (inr fits)
    ]
    | inr short ↦ by_proxies (inl short)
  ]
    where
      by_proxies : (n ≤ u) ⊎ (spine_bytes u n ≤ u) → HasLargeRoom old n ⊎ ((e : Refusal) × IsRefusedLarge old n e)
      by_proxies fits = elim (cases_lt old.inner.profile.proxies (inner_count u old.objects + length (inner_lengths u n))) [
        | inl past ↦ inr (refusal.Proxy, record { fits = fits; past = past })
        | inr few ↦ elim (cases_lt old.inner.profile.pages (inner_pages_with (paging_in old.inner) u old.objects n)) [
          | inl past ↦ inr (refusal.Space, record { fits = fits; proxies = few; past = past })
          | inr enough ↦ inl (record { fits = fits; proxies = few; pages = enough })
        ]
      ]

  -- an object is freed
  pub free_there : (h : ℕ) (v : List ℕ) → get old.objects h ≡ Some v → (new : LargeState) × FreesLarge old h new × StaysKept old new
  free_there h v found =
      let is : option_map length (get old.objects h) ≡ Some (length v) = ap (option_map length) found in
      let r = releases_there u (length v) old.inner h some ready (has_inner_objects true old.inner.profile.pages u lengths old.inner old view opened valid h
      (length v) is) in (
        large_state true u (set lengths h None) r.0,
        gone_frees true old.inner.profile.pages u lengths old.inner old view opened valid h (length v) is r.0 r.1,
        gone_kept true old.inner.profile.pages u lengths old.inner old view opened valid h (length v) is r.0 r.1,
      )

  -- bytes are written into a short object
  short_there : (h at : ℕ) (bytes : List ℕ) → HasShort old h at (length bytes) → AreBytes bytes → 1 ≤ length bytes → length bytes ≤ 4096
      → (new : LargeState) × WritesLarge old (record { number = h; from = at }) bytes new × StaysKept old new
  short_there h at bytes has are some_bytes few =
      let part = short_inner true old.inner.profile.pages u lengths old.inner old view opened valid h at (length bytes) has in
      let w = writes_there old.inner ready h at bytes part are some_bytes few in (
        large_state true u lengths w.0,
        short_writes true old.inner.profile.pages u lengths old.inner old view opened valid h at bytes has w.0 w.1,
        short_kept true old.inner.profile.pages u lengths old.inner old view opened valid h at bytes has w.0 w.1,
      )

  -- bytes are written into a part of a long object
  chunk_there : (h i at : ℕ) (bytes : List ℕ) → HasPartRange old h i at (length bytes) → AreBytes bytes → 1 ≤ length bytes → length bytes ≤ 4096
      → (new : LargeState) × WritesLarge old (record { number = h; from = part_bytes_in old * i + at }) bytes new × StaysKept old new
  chunk_there h i at bytes has are some_bytes few =
      let part = part_there true old.inner.profile.pages u lengths old.inner old view opened valid h i at (length bytes) has in
      let w = writes_there old.inner ready (named (objects old.inner.held) h i) at bytes part are some_bytes few in (
        large_state true u lengths w.0,
        long_writes true old.inner.profile.pages u lengths old.inner old view opened valid h i at bytes has w.0 w.1,
        long_kept true old.inner.profile.pages u lengths old.inner old view opened valid h i at bytes has w.0 w.1,
      )

  pub kept_same : StaysKept old old
  kept_same = same_kept true old.inner.profile.pages u lengths old.inner old view opened valid

-- bytes are written into a long object, part by part
module _ (old : LargeState) (opened : IsTrue old.is_open) (kept : KeepsParts old) (h at : ℕ) (bytes : List ℕ) (has : HasLong old h at (length bytes))
    (are : AreBytes bytes) (few : length bytes ≤ 4096) where
  pub record IsWritten (now : LargeState) (done : ℕ) : Type 0 where
    pub within : done ≤ length bytes
    pub stays : StaysKept old now
    pub so_far : (v : List ℕ) → get old.objects h ≡ Some v → now.objects ≡ insert old.objects h (written v at (take done bytes))

  written_more : (now : LargeState) (done : ℕ) → IsWritten now done → done < length bytes → (count : ℕ) × (0 < count) × (new : LargeState)
      × IsWritten new (done + count)
  written_more now done w lt =
      let part_bytes = part_bytes_in old in
      let positive = some old opened kept in
      let inside = inside_part part_bytes (at + done) positive in
      let count = min (length bytes - done) (part_bytes - (at + done) % part_bytes) in
      let low : count ≤ length bytes - done = omega arith in
      let low' : count ≤ part_bytes - (at + done) % part_bytes = omega arith in
      let more : 0 < count = omega arith in
      let long : length (take count (drop done bytes)) ≡ count = length-take count (drop done bytes) ∙ (let d = length-drop done bytes in omega arith) in
      let part = next_write old now h at done count part_bytes bytes has w.so_far w.stays refl positive (omega arith) more (omega arith) in
      let c = chunk_there now w.stays.stays.open_now w.stays.parts h ((at + done) / part_bytes) ((at + done) % part_bytes) (take count (drop done bytes))
      (subst (λ k. HasPartRange now h ((at + done) / part_bytes) ((at + done) % part_bytes) k) (sym long) part) (bytes_part count done bytes are) (omega arith)
      (omega arith) in (
        count,
        more,
        c.0,
        record {
          within = omega arith;
          stays = then_kept old now c.0 w.stays c.2;
          so_far = so_far_more old now h at done count part_bytes bytes has w.so_far w.stays refl positive (omega arith) more c.0 _ refl c.1;
        },
      )

  written_on : (fuel done : ℕ) (now : LargeState) → IsWritten now done → length bytes ≤ done + fuel
      → (new : LargeState) × WritesLarge old (record { number = h; from = at }) bytes new × StaysKept old new
  written_on zero done now w enough = (now, wrote_all old now h at done bytes has (omega arith) w.so_far, w.stays)
  written_on (suc fuel) done now w enough = elim (cases_lt done (length bytes)) [
    | inl lt ↦ (let m = written_more now done w lt in written_on fuel (done + m.0) m.2 m.3 (let some = m.1 in omega arith))
    | inr all ↦ (now, wrote_all old now h at done bytes has all w.so_far, w.stays)
  ]

  pub long_there : (new : LargeState) × WritesLarge old (record { number = h; from = at }) bytes new × StaysKept old new
  long_there = written_on (length bytes) 0 old (record {
    within = omega arith;
    stays = kept_same old opened kept;
    so_far = λ v found. wrote_nothing old h at bytes v found
        (let same = ap length (same_Some has.bytes v (sym has.found ∙ found)) in let w = has.within in omega arith);
  }) (omega arith)

-- bytes are written into any object, if they don't pass its end
pub write_there : (old : LargeState) → IsTrue old.is_open → KeepsParts old → (h at : ℕ) (bytes v : List ℕ) → get old.objects h ≡ Some v
    → at + length bytes ≤ length v → AreBytes bytes → 1 ≤ length bytes → length bytes ≤ 4096
    → (new : LargeState) × WritesLarge old (record { number = h; from = at }) bytes new × StaysKept old new
write_there old opened kept h at bytes v found within are some few = elim (cases_lt (part_bytes_in old) (length v)) [
  | inl long ↦ long_there old opened kept h at bytes (record { bytes = v; found = found; long = long; within = within }) are few
  | inr short ↦ short_there old opened kept h at bytes (record { bytes = v; found = found; short = short; within = within }) are some few
]
