-- A malloc of an object that has room: there is room for the one inner object of a short object. For a long one the spine is made, then part by part, each
-- named in the spine; there is room for each in turn, other inner objects keep their bytes, and the invariant of the loop of `make_long` holds (`IsGrowing`).
use Rattle.std.proofs.Common.{◌≡◌, ◌≢◌, ℕ, suc, ◌+◌, ◌-◌, ◌*◌, ◌^◌, ◌<◌, ◌≤◌, List, [], ◌∷◌, ◌++◌}
use Rattle.std.proofs.Common.{Some, None, length, get_or, take, replicate, arith, sym, ◌∙◌, ap, refl, subst, inl, inr}
use Rattle.std.specs.Prelude.{◌⊎◌, Option, nat_eq, sum_by}
use Rattle.std.proofs.lemmas.List.Sums.{sum_by-cons}
use Rattle.std.specs.Int.{to_le_bytes, w32}
use Rattle.std.proofs.lemmas.Bool.{cases_eq}
use Rattle.std.proofs.lemmas.List.{length-replicate}
use Rattle.std.proofs.lemmas.Option.{same_Some}
use Rattle.std.specs.FinMap.{get, insert}
use Rattle.cf_base.proofs.Maps.{get_inserted, get_insert_other, len_fresh, len_rebound, some_inserted}
use Rattle.cf_base.proofs.Ranges.{one}
use Rattle.cf_base.specs.Settings.{Profile}
use Rattle.page_model.specs.Arrangement.{live, pages_needed_with}
use Rattle.page_model.specs.Bytes.{written}
use Rattle.page_model.specs.Held.{Objects, objects}
use Rattle.page_model.specs.Paging.{Paging, class_for}
use Rattle.page_model.proofs.CallerLemmas.{length-written, live_added}
use Rattle.cf_model.specs.State.{HeapState, paging_in}
use Rattle.large_objects.specs.Growing.{GrowsInner, HasObjectRoom, IsGrowing, NamesPart}
use Rattle.large_objects.specs.InnerCalls.{MakesOneInner, HasInner, HasInnerRoom, WritesInner}
use Rattle.large_objects.specs.Large.{bytes_found, handle_at, named}
use Rattle.large_objects.specs.InnerObjects.{in_class, length_sum, inner_lengths, part_length, part_count, spine_bytes}
use Rattle.large_objects.proofs.Bytes.{handle_other, handle_written}
use Rattle.large_objects.proofs.Cutting.{in_class_cons, in_class_more, in_class_one, in_class_take_none}
use Rattle.large_objects.proofs.Cutting.{length_long, length_short, inner_length_is, inner_lengths_long, inner_lengths_short}
use Rattle.large_objects.proofs.InnerSteps.{same_paging, then_ready}
use Rattle.large_objects.proofs.Room.{in_class_take, live_rewritten, inner_has_pages, part_fits}
use Rattle.large_objects.proofs.Summed.{sum_inserted, sum_more, sum_rewritten, sum_take_none}

-- adding an object under an unused number leaves every other object unchanged
stays_there : (o : Objects) (q : ℕ) (v : List ℕ) → get o q ≡ None → (h : ℕ) (b : List ℕ) → get o h ≡ Some b → (h ≢ q) × (get (insert o q v) h ≡ Some b)
stays_there o q v none h b is =
    let ne : h ≢ q = (λ e. (let z : get o q ≡ Some b = ap (get o) (sym e) ∙ is in absurd (let w : Some b ≡ None = sym z ∙ none in cc))) in
    (ne, get_insert_other o q v h ne ∙ is)

module _ (p : Paging) (u n : ℕ) (some : 0 < u) (long : u < n) (old : Objects) (h : ℕ) where
  -- the spine alone
  pub growing_first : get old h ≡ None → IsGrowing p u n old h 0 (insert old h (replicate (spine_bytes u n) 0))
  growing_first unused = record {
    spine = record { spine = _; found = get_inserted old h _; long = length-replicate {A = ℕ} (spine_bytes u n) 0 };
    unused = unused;
    others = λ q b is. (stays_there old h _ unused q b is).1;
    made = λ j lt. absurd (omega arith);
    fresh = λ j lt. absurd (omega arith);
    not_spine = λ j lt. absurd (omega arith);
    apart = λ j k lt _. absurd (omega arith);
    no_others = λ q b is none. elim (some_inserted old h _ q b is) [
      | inl (e, _) ↦ inl e
      | inr (_, there) ↦ absurd (let w : Some b ≡ None = sym there ∙ none in cc)
    ];
    live_now = λ c. (
        let e = live_added p old h (replicate (spine_bytes u n) 0) c unused in
        let l = ap (λ k. one (nat_eq (class_for p k) c)) (length-replicate {A = ℕ} (spine_bytes u n) 0) in
        let rest : List ℕ = replicate (part_count u n - 1) u ++ ((n - u * (part_count u n - 1)) ∷ []) in
        let t : in_class p c (take 1 (inner_lengths u n)) ≡ one (nat_eq (class_for p (spine_bytes u n)) c) + in_class p c (take 0 rest) =
        ap (λ xs. in_class p c (take 1 xs)) (inner_lengths_long u n some long) ∙ in_class_cons p c (spine_bytes u n) (take 0 rest) in
        let z = in_class_take_none p c rest in
        let s : in_class p c (take (1 + 0) (inner_lengths u n)) ≡ in_class p c (take 1 (inner_lengths u n)) = refl in
        omega arith);
    all = len_fresh old h _ unused;
    sums_now = λ f. (
        let e = sum_inserted f old h (replicate (spine_bytes u n) 0) unused in
        let l = ap f (length-replicate {A = ℕ} (spine_bytes u n) 0) in
        let rest : List ℕ = replicate (part_count u n - 1) u ++ ((n - u * (part_count u n - 1)) ∷ []) in
        let t : sum_by f (take 1 (inner_lengths u n)) ≡ f (spine_bytes u n) + sum_by f (take 0 rest) =
        ap (λ xs. sum_by f (take 1 xs)) (inner_lengths_long u n some long) ∙ sum_by-cons f (spine_bytes u n) (take 0 rest) in
        let z = sum_take_none f rest in
        let s : sum_by f (take (1 + 0) (inner_lengths u n)) ≡ sum_by f (take 1 (inner_lengths u n)) = refl in
        omega arith);
  }

  -- one part more, which the spine names
  module _ (i : ℕ) (below : i < part_count u n) (now : Objects) (g : IsGrowing p u n old h i now) (q : ℕ) (unused : get now q ≡ None) (small : q < 2 ^ 32)
      (spine : List ℕ) (found : get now h ≡ Some spine) where
    abbrev part_bytes : List ℕ
    part_bytes = replicate (part_length u n i) 0

    abbrev mid : Objects
    mid = insert now q part_bytes

    abbrev spine' : List ℕ
    spine' = written spine (4 * i) (to_le_bytes w32 q)

    abbrev next : Objects
    next = insert mid h spine'

    room : 4 * i + 4 ≤ length spine
    room = (
        let e = ap length (same_Some spine g.spine.spine (sym found ∙ g.spine.found)) in
        let l = g.spine.long in omega arith)

    not_h : q ≢ h
    not_h e = (let z : get now q ≡ Some spine = ap (get now) e ∙ found in absurd (let w : Some spine ≡ None = sym z ∙ unused in cc))

    spine_there : get next h ≡ Some spine'
    spine_there = get_inserted mid h spine'

    other_there : (r : ℕ) → r ≢ h → r ≢ q → get next r ≡ get now r
    other_there r nh nq = get_insert_other mid h spine' r nh ∙ get_insert_other now q part_bytes r nq

    part_there : get next q ≡ Some part_bytes
    part_there = get_insert_other mid h spine' q not_h ∙ get_inserted now q part_bytes

    named_now : (j : ℕ) → named now h j ≡ handle_at spine j
    named_now j = ap (λ o. handle_at (bytes_found o) j) found

    named_next : (j : ℕ) → named next h j ≡ handle_at spine' j
    named_next j = ap (λ o. handle_at (bytes_found o) j) spine_there

    named_new : named next h i ≡ q
    named_new = named_next i ∙ handle_written spine i q room small

    named_same : (j : ℕ) → j < i → named next h j ≡ named now h j
    named_same j lt = named_next j ∙ handle_other spine i q room j (omega arith) ∙ sym (named_now j)

    -- a part that was made before isn't the new one
    not_new : (j : ℕ) → j < i → named now h j ≢ q
    not_new j lt e = (let z : get now q ≡ Some (replicate (part_length u n j) 0) = ap (get now) (sym e) ∙ g.made j lt in
        absurd (let w : Some (replicate (part_length u n j) 0) ≡ None = sym z ∙ unused in cc))

    made_next : (j : ℕ) → j < i + 1 → get next (named next h j) ≡ Some (replicate (part_length u n j) 0)
    made_next j lt = elim (cases_eq j i) [
      | inl is ↦ rw is (ap (get next) named_new ∙ part_there)
      | inr ne ↦ ap (get next) (named_same j (omega arith)) ∙ other_there (named now h j) (g.not_spine j (omega arith)) (not_new j (omega arith))
          ∙ g.made j (omega arith)
    ]

    old_none : get old q ≡ None
    old_none = none_before (get old q) refl
      where
        none_before : (o : Option (List ℕ)) → get old q ≡ o → get old q ≡ None
        none_before None is = is
        none_before (Some b) is = absurd (let z = g.others q b is in let w : Some b ≡ None = sym z ∙ unused in cc)

    fresh_next : (j : ℕ) → j < i + 1 → get old (named next h j) ≡ None
    fresh_next j lt = elim (cases_eq j i) [
      | inl is ↦ rw is (ap (get old) named_new ∙ old_none)
      | inr ne ↦ ap (get old) (named_same j (omega arith)) ∙ g.fresh j (omega arith)
    ]

    not_spine_next : (j : ℕ) → j < i + 1 → named next h j ≢ h
    not_spine_next j lt e = elim (cases_eq j i) [
      | inl is ↦ (let e' : named next h i ≡ h = ap (named next h) (sym is) ∙ e in not_h (sym named_new ∙ e'))
      | inr ne ↦ g.not_spine j (omega arith) (sym (named_same j (omega arith)) ∙ e)
    ]

    apart_next : (j k : ℕ) → j < i + 1 → k < i + 1 → named next h j ≡ named next h k → j ≡ k
    apart_next j k lj lk e = elim (cases_eq j i) [
      | inl is ↦ elim (cases_eq k i) [
        | inl too ↦ is ∙ sym too
        | inr ne ↦ absurd (
            let e' : named next h i ≡ named next h k = ap (named next h) (sym is) ∙ e in
            not_new k (omega arith) (sym (named_same k (omega arith)) ∙ sym e' ∙ named_new))
      ]
      | inr ne ↦ elim (cases_eq k i) [
        | inl too ↦ absurd (
            let e' : named next h j ≡ named next h i = e ∙ ap (named next h) too in
            not_new j (omega arith) (sym (named_same j (omega arith)) ∙ e' ∙ named_new))
        | inr nor ↦ g.apart j k (omega arith) (omega arith) (sym (named_same j (omega arith)) ∙ e ∙ named_same k (omega arith))
      ]
    ]

    no_others_next : (r : ℕ) (b : List ℕ) → get next r ≡ Some b → get old r ≡ None → (r ≡ h) ⊎ ((j : ℕ) × (j < i + 1) × (r ≡ named next h j))
    no_others_next r b is none = elim (cases_eq r h) [
      | inl at ↦ inl at
      | inr nh ↦ elim (cases_eq r q) [
        | inl at ↦ inr (i, (omega arith), at ∙ sym named_new)
        | inr nq ↦ elim (g.no_others r b (sym (other_there r nh nq) ∙ is) none) [
          | inl at ↦ inl at
          | inr (j, lt, at) ↦ inr (j, (omega arith), at ∙ sym (named_same j lt))
        ]
      ]
    ]

    live_next : (c : ℕ) → live p next c ≡ live p old c + in_class p c (take (1 + (i + 1)) (inner_lengths u n))
    live_next c =
        let a = live_added p now q part_bytes c unused in
        let l = ap (λ k. one (nat_eq (class_for p k) c)) (length-replicate {A = ℕ} (part_length u n i) 0) in
        let there : get mid h ≡ Some spine = get_insert_other now q part_bytes h (λ e. not_h (sym e)) ∙ found in
        let b = live_rewritten p mid h spine spine' c there (length-written spine (4 * i) (to_le_bytes w32 q) room) in
        let ll = length_long u n some long in
        let m : in_class p c (take (suc i + 1) (inner_lengths u n)) ≡ in_class p c (take (suc i) (inner_lengths u n)) + one
        (nat_eq (class_for p (get_or (inner_lengths u n) (suc i) 0)) c) =
        in_class_more p c (inner_lengths u n) (suc i) (omega arith) in
        let x = ap (λ k. one (nat_eq (class_for p k) c)) (inner_length_is u n some long i below) in
        let s : in_class p c (take (1 + (i + 1)) (inner_lengths u n)) ≡ in_class p c (take (suc i + 1) (inner_lengths u n)) =
        ap (λ k. in_class p c (take k (inner_lengths u n))) (let e : 1 + (i + 1) ≡ suc i + 1 = omega arith in e) in
        let t : in_class p c (take (1 + i) (inner_lengths u n)) ≡ in_class p c (take (suc i) (inner_lengths u n)) =
        ap (λ k. in_class p c (take k (inner_lengths u n))) (let e : 1 + i ≡ suc i = omega arith in e) in
        let before = g.live_now c in omega arith

    sums_next : (f : ℕ → ℕ) → length_sum f next ≡ length_sum f old + sum_by f (take (1 + (i + 1)) (inner_lengths u n))
    sums_next f =
        let a = sum_inserted f now q part_bytes unused in
        let l = ap f (length-replicate {A = ℕ} (part_length u n i) 0) in
        let there : get mid h ≡ Some spine = get_insert_other now q part_bytes h (λ e. not_h (sym e)) ∙ found in
        let b = sum_rewritten f mid h spine spine' there (length-written spine (4 * i) (to_le_bytes w32 q) room) in
        let ll = length_long u n some long in
        let m : sum_by f (take (suc i + 1) (inner_lengths u n)) ≡ sum_by f (take (suc i) (inner_lengths u n)) + f (get_or (inner_lengths u n) (suc i) 0) =
        sum_more f (inner_lengths u n) (suc i) (omega arith) in
        let x = ap f (inner_length_is u n some long i below) in
        let s : sum_by f (take (1 + (i + 1)) (inner_lengths u n)) ≡ sum_by f (take (suc i + 1) (inner_lengths u n)) =
        ap (λ k. sum_by f (take k (inner_lengths u n))) (let e : 1 + (i + 1) ≡ suc i + 1 = omega arith in e) in
        let t : sum_by f (take (1 + i) (inner_lengths u n)) ≡ sum_by f (take (suc i) (inner_lengths u n)) =
        ap (λ k. sum_by f (take k (inner_lengths u n))) (let e : 1 + i ≡ suc i = omega arith in e) in
        let before = g.sums_now f in omega arith

    pub growing_more : IsGrowing p u n old h (i + 1) next
    growing_more = record {
      spine = record {
        spine = spine';
        found = spine_there;
        long = (
            let e = ap length (same_Some spine g.spine.spine (sym found ∙ g.spine.found)) in
            length-written spine (4 * i) (to_le_bytes w32 q) room ∙ e ∙ g.spine.long);
      };
      unused = g.unused;
      others = λ r b is. (
          let there = g.others r b is in
          let nq = (stays_there now q part_bytes unused r b there).0 in
          let nh : r ≢ h = (λ e. (let z : get old h ≡ Some b = ap (get old) (sym e) ∙ is in absurd (let w : Some b ≡ None = sym z ∙ g.unused in cc))) in
          other_there r nh nq ∙ there);
      made = made_next;
      fresh = fresh_next;
      not_spine = not_spine_next;
      apart = apart_next;
      no_others = no_others_next;
      live_now = live_next;
      all = (
          let a = len_fresh now q part_bytes unused in
          let there : get mid h ≡ Some spine = get_insert_other now q part_bytes h (λ e. not_h (sym e)) ∙ found in
          let b = len_rebound mid h spine' spine there in
          let before = g.all in omega arith);
      sums_now = sums_next;
    }

-- there is room for one inner object alone
pub room_for_short : (u n : ℕ) (s : HeapState) → 0 < u → n ≤ u → HasObjectRoom u n s → HasInnerRoom s n
room_for_short u n s some short room = record {
  fits = (let e = room.part_bytes in part_fits s.profile n (omega arith) (omega arith));
  few = (let l = length_short u n some short in let few = room.proxies in omega arith);
  pages = inner_has_pages (paging_in s) (objects s.held) n (λ c. live (paging_in s) (objects s.held) c + in_class (paging_in s) c (inner_lengths u n)) s.profile.pages
      room.pages (λ c. (let e = ap (in_class (paging_in s) c) (inner_lengths_short u n some short) ∙ in_class_one (paging_in s) c n in omega arith));
}

-- there is room for the spine
pub room_for_spine : (u n : ℕ) (s : HeapState) → 0 < u → u < n → HasObjectRoom u n s → HasInnerRoom s (spine_bytes u n)
room_for_spine u n s some long room = record {
  fits = (
      let e = room.part_bytes in
      let within : spine_bytes u n ≤ u = elim room.fits [ inl short ↦ absurd (omega arith) | inr fits ↦ fits ] in
      part_fits s.profile (spine_bytes u n) (omega arith) (omega arith));
  few = (let l = length_long u n some long in let few = room.proxies in omega arith);
  pages = inner_has_pages (paging_in s) (objects s.held) (spine_bytes u n)
      (λ c. live (paging_in s) (objects s.held) c + in_class (paging_in s) c (inner_lengths u n)) s.profile.pages
      room.pages (λ c. (let e = ap (in_class (paging_in s) c) (inner_lengths_long u n some long) ∙ in_class_cons (paging_in s) c (spine_bytes u n) _ in omega arith));
}

module _ (u n : ℕ) (old now : HeapState) (h i : ℕ) (some : 0 < u) (long : u < n) (room : HasObjectRoom u n old) (g : GrowsInner u n old h i now)
    (below : i < part_count u n) where
  -- there is room for each part in turn
  pub room_for_part : HasInnerRoom now (part_length u n i)
  room_for_part =
      let k = g.stays.settings in
      let profile_pages = ap (λ (p : Profile). p.pages) k.profile in
      let profile_words = ap (λ (p : Profile). p.page_words) k.profile in
      let profile_proxies = ap (λ (p : Profile). p.proxies) k.profile in
      let e = room.part_bytes in
      let ll = length_long u n some long in
      let all = g.growing.all in
      let few = room.proxies in
      let p : Paging = paging_in old in
      let each : (c : ℕ) → live (paging_in old) (objects now.held) c + one (nat_eq (class_for (paging_in old) (part_length u n i)) c)
      ≤ live (paging_in old) (objects old.held) c + in_class (paging_in old) c (inner_lengths u n) = λ c. (
      let a = g.growing.live_now c in
      let m : in_class (paging_in old) c (take (suc i + 1) (inner_lengths u n)) ≡ in_class (paging_in old) c (take (suc i) (inner_lengths u n))
      + one (nat_eq (class_for (paging_in old) (get_or (inner_lengths u n) (suc i) 0)) c) = in_class_more (paging_in old) c (inner_lengths u n) (suc i) (omega arith) in
      let x = ap (λ k. one (nat_eq (class_for (paging_in old) k) c)) (inner_length_is u n some long i below) in
      let t : in_class (paging_in old) c (take (1 + i) (inner_lengths u n)) ≡ in_class (paging_in old) c (take (suc i) (inner_lengths u n)) =
      ap (λ k. in_class (paging_in old) c (take k (inner_lengths u n))) (let e : 1 + i ≡ suc i = omega arith in e) in
      let w = in_class_take (paging_in old) c (inner_lengths u n) (suc i + 1) in omega arith) in
      let within = inner_has_pages (paging_in old) (objects now.held) (part_length u n i)
      (λ c. live (paging_in old) (objects old.held) c + in_class (paging_in old) c (inner_lengths u n)) old.profile.pages room.pages each in
      let family : Paging → Type 0 = λ p. pages_needed_with p (objects now.held) (part_length u n i) ≤ old.profile.pages in
      let within' : pages_needed_with (paging_in now) (objects now.held) (part_length u n i) ≤ old.profile.pages = subst family (sym (same_paging old now k))
      within in
      record {
        fits = part_fits now.profile (part_length u n i) (omega arith) (omega arith);
        few = omega arith;
        pages = omega arith;
      }

  -- the spine has a place for its handle
  pub place_in_spine : HasInner now h (4 * i) 4
  place_in_spine = record { bytes = g.growing.spine.spine; found = g.growing.spine.found; within = (let l = g.growing.spine.long in omega arith) }

  -- the index of the place's first byte is a number of 32 bits, as the spine fits a page
  pub place_is_small : u < 2 ^ 32 → 4 * i < 2 ^ 32
  place_is_small small = (let within : spine_bytes u n ≤ u = elim room.fits [ inl short ↦ absurd (omega arith) | inr fits ↦ fits ] in omega arith)

  pub grows_more : (next : HeapState) → NamesPart now h i (part_length u n i) next → GrowsInner u n old h (i + 1) next
  grows_more next names = record {
    stays = then_ready old now next g.stays names.stays;
    growing = subst (λ (o : Objects). IsGrowing (paging_in old) u n (objects old.held) h (i + 1) o) (sym names.left)
        (growing_more (paging_in old) u n some long (objects old.held) h i below (objects now.held) g.growing names.number names.unused names.below
        names.spine names.found);
  }

-- a spine is made
pub grows_first : (u n : ℕ) (old new : HeapState) (h : ℕ) → 0 < u → u < n → MakesOneInner old h (spine_bytes u n) new → GrowsInner u n old h 0 new
grows_first u n old new h some long given = record {
  stays = given.stays;
  growing = subst (λ (o : Objects). IsGrowing (paging_in old) u n (objects old.held) h 0 o) (sym given.left)
      (growing_first (paging_in old) u n some long (objects old.held) h given.unused);
}

-- a part is made, and then its handle is written
pub part_named : (old made new : HeapState) (h i n q : ℕ) → MakesOneInner old q n made → (v : List ℕ) → get (objects old.held) h ≡ Some v
    → WritesInner made h (4 * i) (to_le_bytes w32 q) new → NamesPart old h i n new
part_named old made new h i n q given v found wrote =
    let there = (stays_there (objects old.held) q (replicate n 0) given.unused h v found).1 in
    let there' : get (objects made.held) h ≡ Some v = ap (λ (o : Objects). get o h) given.left ∙ there in
    let same = same_Some wrote.object v (sym wrote.found ∙ there') in
    record {
      stays = then_ready old made new given.stays wrote.stays;
      number = q;
      unused = given.unused;
      below = given.below;
      spine = v;
      found = found;
      left = wrote.left ∙ ap (λ (o : Objects). insert o h (written wrote.object (4 * i) (to_le_bytes w32 q))) given.left
          ∙ ap (λ w. insert (insert (objects old.held) q (replicate n 0)) h (written w (4 * i) (to_le_bytes w32 q))) same;
    }

-- an object keeps its bytes when another inner object is made
pub inner_beside : (old made : HeapState) (h q n at count : ℕ) → MakesOneInner old q n made → HasInner old h at count → HasInner made h at count
inner_beside old made h q n at count given has = record {
  bytes = has.bytes;
  found = ap (λ (o : Objects). get o h) given.left ∙ (stays_there (objects old.held) q (replicate n 0) given.unused h has.bytes has.found).1;
  within = has.within;
}
