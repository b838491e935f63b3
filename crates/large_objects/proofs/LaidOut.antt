-- When an object is made, freed or written, the inner objects are still exactly the short objects, the spines and the parts of the heap's objects
-- (`AreLaidOut`). By this each object's handle, spine and parts are live. Also the definitions of the inner objects of one object, and of a new one
-- (`IsInnerOf`, `IsNew`).
use Rattle.std.proofs.Common.{◌≡◌, ◌≢◌, ℕ, ◌<◌, ◌≤◌, List, Some, None, length, arith, sym, ◌∙◌, ap, refl, inl, inr}
use Rattle.std.specs.Prelude.{◌⊎◌, Option}
use Rattle.std.proofs.lemmas.Bool.{cases_eq, cases_lt}
use Rattle.std.proofs.lemmas.Option.{same_Some}
use Rattle.std.specs.FinMap.{get, insert, remove}
use Rattle.cf_base.proofs.Maps.{get_inserted, get_insert_other, get_remove_other, some_inserted, some_removed}
use Rattle.page_model.specs.Held.{Objects}
use Rattle.large_objects.specs.Large.{AreLaidOut, HasSpine, IsPart, bytes_found, handle_at, named, part_bytes_at}
use Rattle.large_objects.specs.InnerObjects.{part_count, spine_bytes}
use Rattle.large_objects.specs.Shrinking.{HasParts}
use Rattle.large_objects.proofs.Bytes.{part_of_length}

pub clash : {T : Type 0} (o : Objects) (q : ℕ) (v : List ℕ) → get o q ≡ Some v → get o q ≡ None → T
clash o q v some none = absurd (let z : Some v ≡ None = sym some ∙ none in cc)

-- a map has no entry if none is possible
none_by : (o : Objects) (q : ℕ) → ((b : List ℕ) → get o q ≡ Some b → ⊥) → get o q ≡ None
none_by o q never = go (get o q) never
  where
    go : (r : Option (List ℕ)) → ((b : List ℕ) → r ≡ Some b → ⊥) → r ≡ None
    go None never = refl
    go (Some b) never = absurd (never b refl)

module _ (u : ℕ) (large inner : Objects) (laid : AreLaidOut u large inner) where
  -- an object's handle is live in the inner manager
  pub in_inner : (g : ℕ) (w : List ℕ) → get large g ≡ Some w → (b : List ℕ) × (get inner g ≡ Some b)
  in_inner g w is = elim (cases_lt u (length w)) [
    | inl long ↦ ((laid.spines g w is long).spine, (laid.spines g w is long).found)
    | inr short ↦ (w, laid.small g w is short)
  ]

  pub not_large : (h : ℕ) → get inner h ≡ None → get large h ≡ None
  not_large h none = none_by large h (λ w is. (let b = in_inner h w is in clash inner h b.0 b.1 none))

  part_there : (q g i : ℕ) → (k : IsPart u large inner q g i) → get inner q ≡ Some (part_bytes_at u k.bytes i)
  part_there q g i k = ap (get inner) k.is ∙ laid.parts_are g k.bytes k.found k.long i k.below

  -- a long object has its spine and its parts
  pub has_parts : (h : ℕ) (v : List ℕ) → get large h ≡ Some v → u < length v → HasParts u (length v) inner h
  has_parts h v is long =
      let part_bytes : (j : ℕ) → j < part_count u (length v) → IsPart u large inner (named inner h j) h j = λ j lt.
      record { bytes = v; found = is; long = long; below = lt; is = refl } in
      record {
        spine = laid.spines h v is long;
        made = λ j lt. (part_bytes_at u v j, laid.parts_are h v is long j lt, part_of_length u v j);
        not_spine = λ j lt e. clash large h v is (sym (ap (get large) e) ∙ laid.not_objects (named inner h j) h j (part_bytes j lt));
        apart = λ j k lj lk e. (
            let other : IsPart u large inner (named inner h j) h k = record { bytes = v; found = is; long = long; below = lk; is = e } in
            (laid.of_one (named inner h j) h j h k (part_bytes j lj) other).1);
      }

-- An object of the bytes v is made under the handle h: `inner` are the inner objects before, `next` those afterwards, with those of the new object.
pub record IsNew (u : ℕ) (inner : Objects) (h : ℕ) (v : List ℕ) (next : Objects) : Type 0 where
  pub unused : get inner h ≡ None
  pub others : (q : ℕ) (b : List ℕ) → get inner q ≡ Some b → get next q ≡ Some b
  pub small : length v ≤ u → get next h ≡ Some v
  pub spine : u < length v → HasSpine u next h (length v)
  pub parts_are : u < length v → (i : ℕ) → i < part_count u (length v) → get next (named next h i) ≡ Some (part_bytes_at u v i)
  pub fresh : u < length v → (i : ℕ) → i < part_count u (length v) → get inner (named next h i) ≡ None
  pub not_spine : u < length v → (i : ℕ) → i < part_count u (length v) → named next h i ≢ h
  pub apart : u < length v → (i j : ℕ) → i < part_count u (length v) → j < part_count u (length v) → named next h i ≡ named next h j → i ≡ j
  pub no_others : (q : ℕ) (b : List ℕ) → get next q ≡ Some b → get inner q ≡ None
      → (q ≡ h) ⊎ ((u < length v) × ((i : ℕ) × (i < part_count u (length v)) × (q ≡ named next h i)))

module _ (u : ℕ) (large inner : Objects) (laid : AreLaidOut u large inner) (h : ℕ) (v : List ℕ) (next : Objects) (new : IsNew u inner h v next) where
  abbrev more : Objects
  more = insert large h v

  none_large : get large h ≡ None
  none_large = not_large u large inner laid h new.unused

  other_than : (g : ℕ) (w : List ℕ) → get large g ≡ Some w → g ≢ h
  other_than g w is e = clash large h w (sym (ap (get large) e) ∙ is) none_large

  still_large : (g : ℕ) (w : List ℕ) → get large g ≡ Some w → get more g ≡ Some w
  still_large g w is = get_insert_other large h v g (other_than g w is) ∙ is

  same_handle : (g : ℕ) (w : List ℕ) → get large g ≡ Some w → get next g ≡ get inner g
  same_handle g w is = (let b = in_inner u large inner laid g w is in new.others g b.0 b.1 ∙ sym b.1)

  same_named : (g : ℕ) (w : List ℕ) → get large g ≡ Some w → (i : ℕ) → named next g i ≡ named inner g i
  same_named g w is i = ap (λ o. handle_at (bytes_found o) i) (same_handle g w is)

  -- each part afterwards is a part of the new object, or was a part before
  before_or_own : (q g i : ℕ) → IsPart u more next q g i
      → ((g ≡ h) × ((u < length v) × ((i < part_count u (length v)) × (q ≡ named next h i)))) ⊎ IsPart u large inner q g i
  before_or_own q g i k = elim (some_inserted large h v g k.bytes k.found) [
    | inl (at, is) ↦ inl (
        let l = ap length is in
        (at, ((let long = k.long in omega arith), ((let below = k.below in rw (ap (part_count u) l) below), k.is ∙ ap (λ g. named next g i) at))))
    | inr (ne, there) ↦ inr (record { bytes = k.bytes; found = there; long = k.long; below = k.below; is = k.is ∙ same_named g k.bytes there i })
  ]

  after : (q g i : ℕ) → IsPart u large inner q g i → IsPart u more next q g i
  after q g i k = record {
    bytes = k.bytes;
    found = still_large g k.bytes k.found;
    long = k.long;
    below = k.below;
    is = k.is ∙ sym (same_named g k.bytes k.found i);
  }

  pub laid_more : AreLaidOut u more next
  laid_more = record {
    small = λ g w is short. elim (some_inserted large h v g w is) [
      | inl (at, same) ↦ (let l = ap length same in ap (get next) at ∙ new.small (omega arith) ∙ ap (λ b. Some b) same)
      | inr (ne, there) ↦ new.others g w (laid.small g w there short)
    ];
    spines = λ g w is long. elim (some_inserted large h v g w is) [
      | inl (at, same) ↦ (
          let l = ap length same in let s = new.spine (omega arith) in
          record { spine = s.spine; found = ap (get next) at ∙ s.found; long = s.long ∙ ap (λ n. spine_bytes u n) l })
      | inr (ne, there) ↦ (let s = laid.spines g w there long in record { spine = s.spine; found = new.others g s.spine s.found; long = s.long })
    ];
    parts_are = λ g w is long i lt. elim (some_inserted large h v g w is) [
      | inl (at, same) ↦ (
          let l = ap length same in
          ap (λ g. get next (named next g i)) at ∙ new.parts_are (omega arith) i (rw (sym (ap (part_count u) l)) at lt) ∙ ap (λ b. Some (part_bytes_at u b i)) same)
      | inr (ne, there) ↦ ap (get next) (same_named g w there i)
          ∙ new.others (named inner g i) (part_bytes_at u w i) (laid.parts_are g w there long i lt)
    ];
    not_objects = λ q g i k. elim (before_or_own q g i k) [
      | inl (at, (long, (lt, is))) ↦ (
          let free : get inner q ≡ None = ap (get inner) is ∙ new.fresh long i lt in
          get_insert_other large h v q (λ e. new.not_spine long i lt (sym is ∙ e)) ∙ not_large u large inner laid q free)
      | inr was ↦ get_insert_other large h v q
          (λ e. clash inner h (part_bytes_at u was.bytes i) (sym (ap (get inner) e) ∙ part_there u large inner laid q g i was) new.unused)
          ∙ laid.not_objects q g i was
    ];
    of_one = λ q g i k j one other. elim (before_or_own q g i one) [
      | inl (at, (long, (lt, is))) ↦ elim (before_or_own q k j other) [
        | inl (at', (_, (lt', is'))) ↦ (at ∙ sym at', new.apart long i j lt lt' (sym is ∙ is'))
        | inr was ↦ clash inner q (part_bytes_at u was.bytes j) (part_there u large inner laid q k j was) (ap (get inner) is ∙ new.fresh long i lt)
      ]
      | inr was ↦ elim (before_or_own q k j other) [
        | inl (at', (long, (lt', is'))) ↦ clash inner q (part_bytes_at u was.bytes i) (part_there u large inner laid q g i was)
            (ap (get inner) is' ∙ new.fresh long j lt')
        | inr too ↦ laid.of_one q g i k j was too
      ]
    ];
    no_others = λ q b is none.
        let ne : q ≢ h = λ e. clash more h v (get_inserted large h v) (sym (ap (get more) e) ∙ none) in
        let none' : get large q ≡ None = sym (get_insert_other large h v q ne) ∙ none in
        other q b is ne none' (get inner q) refl;
  }
    where
      other : (q : ℕ) (b : List ℕ) → get next q ≡ Some b → q ≢ h → get large q ≡ None → (r : Option (List ℕ)) → get inner q ≡ r
          → (g : ℕ) × (i : ℕ) × IsPart u more next q g i
      other q b is ne none (Some w) there = (let k = laid.no_others q w there none in (k.0, k.1, after q k.0 k.1 k.2))
      other q b is ne none None free = elim (new.no_others q b is free) [
        | inl at ↦ absurd (ne at)
        | inr (long, (i, lt, at)) ↦ (h, i, record { bytes = v; found = get_inserted large h v; long = long; below = lt; is = at })
      ]

-- q is the handle of the object h, or of one of its parts
abbrev pub IsInnerOf : ℕ → Objects → ℕ → List ℕ → ℕ → Type 0
IsInnerOf u inner h v q = (q ≡ h) ⊎ ((u < length v) × ((i : ℕ) × (i < part_count u (length v)) × (q ≡ named inner h i)))

-- The inner objects of the object h change, and nothing else.
module _ (u : ℕ) (large inner : Objects) (laid : AreLaidOut u large inner) (h : ℕ) (v : List ℕ) (found : get large h ≡ Some v) (next : Objects)
    (others : (q : ℕ) → (IsInnerOf u inner h v q → ⊥) → get next q ≡ get inner q) where
  own_part : u < length v → (i : ℕ) → i < part_count u (length v) → IsPart u large inner (named inner h i) h i
  own_part long i lt = record { bytes = v; found = found; long = long; below = lt; is = refl }

  pub kept_handle : (g : ℕ) (w : List ℕ) → get large g ≡ Some w → g ≢ h → get next g ≡ get inner g
  kept_handle g w is ne = others g (elim [
    | inl at ↦ ne at
    | inr (long, (i, lt, at)) ↦ clash large g w is (ap (get large) at ∙ laid.not_objects (named inner h i) h i (own_part long i lt))
  ])

  pub kept_named : (g : ℕ) (w : List ℕ) → get large g ≡ Some w → g ≢ h → (i : ℕ) → named next g i ≡ named inner g i
  kept_named g w is ne i = ap (λ o. handle_at (bytes_found o) i) (kept_handle g w is ne)

  pub kept_part : (q g j : ℕ) → IsPart u large inner q g j → g ≢ h → get next q ≡ get inner q
  kept_part q g j k ne = others q (elim [
    | inl at ↦ clash large h v found (sym (ap (get large) at) ∙ laid.not_objects q g j k)
    | inr (long, (i, lt, at)) ↦ (
        let own : IsPart u large inner q h i = record { bytes = v; found = found; long = long; below = lt; is = at } in
        ne (laid.of_one q g j h i k own).0)
  ])

  -- all inner objects of the object h are removed
  module _ (gone : (q : ℕ) → IsInnerOf u inner h v q → get next q ≡ None) where
    abbrev less : Objects
    less = remove large h

    was_part : (q g i : ℕ) → IsPart u less next q g i → (g ≢ h) × IsPart u large inner q g i
    was_part q g i k =
        let r = some_removed large h g k.bytes k.found in
        (r.0, record { bytes = k.bytes; found = r.1; long = k.long; below = k.below; is = k.is ∙ kept_named g k.bytes r.1 r.0 i })

    still_part : (q g i : ℕ) → g ≢ h → IsPart u large inner q g i → IsPart u less next q g i
    still_part q g i ne k = record {
      bytes = k.bytes;
      found = get_remove_other large h g ne ∙ k.found;
      long = k.long;
      below = k.below;
      is = k.is ∙ sym (kept_named g k.bytes k.found ne i);
    }

    pub laid_less : AreLaidOut u less next
    laid_less = record {
      small = λ g w is short. (let r = some_removed large h g w is in kept_handle g w r.1 r.0 ∙ laid.small g w r.1 short);
      spines = λ g w is long. (
          let r = some_removed large h g w is in let s = laid.spines g w r.1 long in
          record { spine = s.spine; found = kept_handle g w r.1 r.0 ∙ s.found; long = s.long });
      parts_are = λ g w is long i lt. (
          let r = some_removed large h g w is in
          let k : IsPart u large inner (named inner g i) g i = record { bytes = w; found = r.1; long = long; below = lt; is = refl } in
          ap (get next) (kept_named g w r.1 r.0 i) ∙ kept_part (named inner g i) g i k r.0 ∙ laid.parts_are g w r.1 long i lt);
      not_objects = λ q g i k. (
          let was = was_part q g i k in
          get_remove_other large h q (λ e. clash large h v found (sym (ap (get large) e) ∙ laid.not_objects q g i was.1)) ∙ laid.not_objects q g i was.1);
      of_one = λ q g i k j one other. laid.of_one q g i k j (was_part q g i one).1 (was_part q k j other).1;
      no_others = λ q b is none.
          let not_inner : IsInnerOf u inner h v q → ⊥ = λ part. clash next q b is (gone q part) in
          let ne : q ≢ h = λ e. not_inner (inl e) in
          let there : get inner q ≡ Some b = sym (others q not_inner) ∙ is in
          let none' : get large q ≡ None = sym (get_remove_other large h q ne) ∙ none in
          let k = laid.no_others q b there none' in
          let own : k.0 ≢ h = λ e. (
          let part_bytes = k.2 in
          let at : get large h ≡ Some part_bytes.bytes = sym (ap (get large) e) ∙ part_bytes.found in
          let same = same_Some part_bytes.bytes v (sym at ∙ found) in
          let l = ap length same in
          not_inner (inr (
            (let long = part_bytes.long in omega arith),
            (
              k.1,
              (let below = part_bytes.below in rw (ap (part_count u) l) at below),
              part_bytes.is ∙ ap (λ g. named inner g k.1) e,
            ),
          ))) in
          (k.0, k.1, still_part q k.0 k.1 own k.2);
    }

  -- the object has other bytes of the same length, and its parts have them
  module _ (w : List ℕ) (same : length w ≡ length v) (small : length v ≤ u → get next h ≡ Some w) (spine : u < length v → get next h ≡ get inner h)
      (these_are : u < length v → (i : ℕ) → i < part_count u (length v) → get next (named inner h i) ≡ Some (part_bytes_at u w i))
      (no_more : (q : ℕ) (b : List ℕ) → get next q ≡ Some b → (c : List ℕ) × (get inner q ≡ Some c)) where
    abbrev changed : Objects
    changed = insert large h w

    named_same : (g : ℕ) (x : List ℕ) → get large g ≡ Some x → u < length x → (i : ℕ) → named next g i ≡ named inner g i
    named_same g x is long i = elim (cases_eq g h) [
      | inl at ↦ (
          let e : get large h ≡ Some x = sym (ap (get large) at) ∙ is in
          let l = ap length (same_Some x v (sym e ∙ found)) in
          let s : get next g ≡ get inner g = ap (get next) at ∙ spine (omega arith) ∙ sym (ap (get inner) at) in
          ap (λ o. handle_at (bytes_found o) i) s)
      | inr ne ↦ kept_named g x is ne i
    ]

    was_there : (q g i : ℕ) → IsPart u changed next q g i → IsPart u large inner q g i
    was_there q g i k = elim (some_inserted large h w g k.bytes k.found) [
      | inl (at, is) ↦ (
          let l : length k.bytes ≡ length v = sym (ap length is) ∙ same in
          let there : get large g ≡ Some v = ap (get large) at ∙ found in
          let long : u < length v = (let was = k.long in omega arith) in
          record {
            bytes = v;
            found = there;
            long = long;
            below = (let below = k.below in rw (ap (part_count u) l) at below);
            is = k.is
                ∙ named_same g v there long i;
          })
      | inr (ne, there) ↦ record { bytes = k.bytes; found = there; long = k.long; below = k.below; is = k.is ∙ named_same g k.bytes there k.long i }
    ]

    is_there : (q g i : ℕ) → IsPart u large inner q g i → IsPart u changed next q g i
    is_there q g i k = elim (cases_eq g h) [
      | inl at ↦ (
          let e : get large h ≡ Some k.bytes = sym (ap (get large) at) ∙ k.found in
          let l : length k.bytes ≡ length w = ap length (same_Some k.bytes v (sym e ∙ found)) ∙ sym same in
          record {
            bytes = w;
            found = ap (get changed) at ∙ get_inserted large h w;
            long = (let was = k.long in omega arith);
            below = (let below = k.below in rw (ap (part_count u) l) at below);
            is = k.is ∙ sym (named_same g k.bytes k.found k.long i);
          })
      | inr ne ↦ record {
        bytes = k.bytes;
        found = get_insert_other large h w g ne ∙ k.found;
        long = k.long;
        below = k.below;
        is = k.is ∙ sym (named_same g k.bytes k.found k.long i);
      }
    ]

    pub laid_changed : AreLaidOut u changed next
    laid_changed = record {
      small = λ g x is short. elim (some_inserted large h w g x is) [
        | inl (at, e) ↦ (let l = ap length e in ap (get next) at ∙ small (omega arith) ∙ ap (λ b. Some b) e)
        | inr (ne, there) ↦ kept_handle g x there ne ∙ laid.small g x there short
      ];
      spines = λ g x is long. elim (some_inserted large h w g x is) [
        | inl (at, e) ↦ (
            let l = ap length e in
            let s = laid.spines h v found (omega arith) in
            let n : length v ≡ length x = omega arith in
            record { spine = s.spine; found = ap (get next) at ∙ spine (omega arith) ∙ s.found; long = s.long ∙ ap (λ n. spine_bytes u n) n })
        | inr (ne, there) ↦ (let s = laid.spines g x there long in record { spine = s.spine; found = kept_handle g x there ne ∙ s.found; long = s.long })
      ];
      parts_are = λ g x is long i lt. elim (some_inserted large h w g x is) [
        | inl (at, e) ↦ (
            let l = ap length e in
            let n : length x ≡ length v = omega arith in
            let there : get large g ≡ Some v = ap (get large) at ∙ found in
            ap (get next) (named_same g v there (omega arith) i ∙ ap (λ g. named inner g i) at)
            ∙ these_are (omega arith) i (rw (ap (part_count u) n) at lt) ∙ ap (λ b. Some (part_bytes_at u b i)) e)
        | inr (ne, there) ↦ (
            let k : IsPart u large inner (named inner g i) g i = record { bytes = x; found = there; long = long; below = lt; is = refl } in
            ap (get next) (kept_named g x there ne i) ∙ kept_part (named inner g i) g i k ne ∙ laid.parts_are g x there long i lt)
      ];
      not_objects = λ q g i k. (
          let was = was_there q g i k in
          get_insert_other large h w q (λ e. clash large h v found (sym (ap (get large) e) ∙ laid.not_objects q g i was)) ∙ laid.not_objects q g i was);
      of_one = λ q g i k j one other. laid.of_one q g i k j (was_there q g i one) (was_there q k j other);
      no_others = λ q b is none.
          let ne : q ≢ h = λ e. clash changed h w (get_inserted large h w) (sym (ap (get changed) e) ∙ none) in
          let none' : get large q ≡ None = sym (get_insert_other large h w q ne) ∙ none in
          let c = no_more q b is in
          let k = laid.no_others q c.0 c.1 none' in
          (k.0, k.1, is_there q k.0 k.1 k.2);
    }
