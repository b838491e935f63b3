-- For each call of a heap of long objects, by its fields: what the call may rely on, its steps by the state that contracts see; that the invariant and the
-- rules hold after a malloc, free or write, which does what its contract says; and for which cause a malloc is refused, and when for none.
use Rattle.std.proofs.Common.{◌≡◌, ℕ, ◌+◌, ◌*◌, ◌^◌, ◌<◌, ◌≤◌, Bool, true, List, Some, None, length}
use Rattle.std.proofs.Common.{get_or, set, take, drop, replicate, arith, sym, ◌∙◌, ap, refl, subst, inl, inr}
use Rattle.std.specs.Prelude.{Option, IsTrue, is_some, option_map}
use Rattle.std.proofs.lemmas.Bool.{cases_eq, cases_lt}
use Rattle.std.proofs.lemmas.List.{get_or_past, length-replicate}
use Rattle.std.proofs.lemmas.Option.{same_Some}
use Rattle.std.specs.FinMap.{get, insert, remove, len}
use Rattle.cf_base.specs.Settings.{Profile}
use Rattle.cf_base.proofs.Maps.{get_inserted, get_insert_other, some_inserted}
use Rattle.cf_base.specs.declared.kind.Kind.{Kind}
use Rattle.step_ledger.specs.Counting.{RoseAtMost}
use Rattle.page_model.specs.Arrangement.{live, pages_for}
use Rattle.page_model.specs.Bytes.{written}
use Rattle.page_model.specs.Held.{Objects, objects}
use Rattle.page_model.specs.Paging.{Paging}
use Rattle.page_model.proofs.CallerLemmas.{len-objects, length-written}
use Rattle.cf_model.specs.Answers.{totals_in}
use Rattle.cf_model.specs.Bounds.{Bounds}
use Rattle.cf_model.specs.Families.{IsPaged}
use Rattle.cf_model.specs.State.{HeapState, paging_in}
use Rattle.large_objects.specs.Growing.{HasObjectRoom, MakesInner}
use Rattle.large_objects.specs.InnerCalls.{HasInner, IsReadyInner, StaysReady, WritesInner}
use Rattle.large_objects.specs.Large.{AreInnerCounted, AreLaidOut, KeepsParts, LargeState, named, part_bytes_at}
use Rattle.large_objects.specs.LargeCosts.{ByCosts, InnerCosts}
use Rattle.large_objects.specs.LargeSteps.{FitsSpine, FreesLarge, GivesLarge, HasPartRange, HasLargeRoom, HasShort}
use Rattle.large_objects.specs.LargeSteps.{StaysKept, LacksPages, LacksProxies, WritesLarge, part_bytes_in}
use Rattle.large_objects.specs.Layout.{AreKept, AreLengths, IsValid, gathered_objects, large_state}
use Rattle.large_objects.specs.InnerObjects.{in_class, inner_count, inner_pages_with, inner_lengths, whole_part_bytes, part_count}
use Rattle.large_objects.specs.Shrinking.{HasInnerObjects, HasParts, IsShrinking, ReleasesInner}
use Rattle.large_objects.proofs.Bytes.{range_of_part, part_of_length, part_other, part_written}
use Rattle.large_objects.proofs.Gathering.{all_gathered, counted_gone_long, counted_gone_short, counted_long, counted_short, counted_written, gone_long}
use Rattle.large_objects.proofs.Gathering.{gone_short, lengths_less, lengths_more, lengths_same, new_long, new_short, others_long, others_short}
use Rattle.large_objects.proofs.InnerSteps.{handle_below, same_paging}
use Rattle.large_objects.proofs.LaidOut.{has_parts, not_large, laid_changed, laid_less, laid_more}
use Rattle.large_objects.proofs.PagesWith.{inner_lengths_few}
use Rattle.large_objects.proofs.Room.{pages_counted}

-- An open heap, as its fields hold it.
module _ (b : Bool) (pages u : ℕ) (lengths : List (Option ℕ)) (s : HeapState) (old : LargeState) (view : large_state b u lengths s ≡ old)
    (opened : IsTrue old.is_open) (valid : IsValid b pages u lengths s) where
  pub is_open : b ≡ true
  is_open = ap (λ (x : LargeState). x.is_open) view ∙ opened

  pub inner_is : s ≡ old.inner
  inner_is = ap (λ (x : LargeState). x.inner) view

  valid_open : IsValid true pages u lengths s
  valid_open = subst (λ (b : Bool). IsValid b pages u lengths s) is_open valid

  objects_are : gathered_objects u lengths (objects s.held) ≡ old.objects
  objects_are =
      let e : large_state true u lengths s ≡ large_state b u lengths s = ap (λ (b : Bool). large_state b u lengths s) (sym is_open) in
      ap (λ (x : LargeState). x.objects) (e ∙ view)

  pub kept : AreKept pages u lengths old.objects s
  kept = subst (λ (o : Objects). AreKept pages u lengths o s) objects_are valid_open

  pub ready : IsReadyInner s
  ready = record { opened = kept.parts.opened; rules = kept.parts.rules; pages = kept.parts.pages; ones = kept.parts.ones }

  pub part_is : u ≡ part_bytes_in old
  part_is = kept.part_bytes ∙ ap (λ (s : HeapState). whole_part_bytes s.profile) inner_is

  -- the steps of a malloc or a free, by the state that contracts see
  pub steps_seen : (most : Option Bounds) (f : InnerCosts → Paging → ℕ → ℕ → ℕ) (n before after : ℕ)
      → ByCosts s most (λ c. RoseAtMost before after (f c (paging_in s) u n))
      → ByCosts old.inner most (λ c. RoseAtMost before after (f c (paging_in old.inner) (part_bytes_in old) n))
  steps_seen most f n before after steps =
      subst (λ (m : HeapState). ByCosts m most (λ c. RoseAtMost before after (f c (paging_in m) (part_bytes_in old) n))) inner_is
      (subst (λ k. ByCosts s most (λ c. RoseAtMost before after (f c (paging_in s) k n))) part_is steps)

  pub laid : AreLaidOut u old.objects (objects s.held)
  laid = subst (λ (u : ℕ). AreLaidOut u old.objects (objects s.held)) (sym kept.part_bytes) kept.parts.laid

  pub counted : AreInnerCounted (paging_in s) u old.objects (objects s.held)
  counted = subst (λ (u : ℕ). AreInnerCounted (paging_in s) u old.objects (objects s.held)) (sym kept.part_bytes) kept.parts.counted

  pub keeps : KeepsParts old
  keeps =
      let e : record { is_open = true; objects = old.objects; inner = s } ≡ old = whole in
      subst (λ (x : LargeState). KeepsParts x) e kept.parts
    where
      whole : record { is_open = true; objects = old.objects; inner = s } ≡ old
      whole =
          let e : large_state true u lengths s ≡ large_state b u lengths s = ap (λ (b : Bool). large_state b u lengths s) (sym is_open) in
          let f : record { is_open = true; objects = old.objects; inner = s } ≡ large_state true u lengths s =
          ap (λ (o : Objects). record { is_open = true; objects = o; inner = s }) (sym objects_are) in
          f ∙ e ∙ view

  -- the heap after a call, from the fields after it
  module _ (s' : HeapState) (lengths' : List (Option ℕ)) (large' : Objects) (stays : StaysReady s s') (laid' : AreLaidOut u large' (objects s'.held))
      (counted' : AreInnerCounted (paging_in s) u large' (objects s'.held)) (known : AreLengths lengths' large' s.profile.proxies) where
    part_still : u ≡ whole_part_bytes s'.profile
    part_still = kept.part_bytes ∙ ap (λ (p : Profile). whole_part_bytes p) (sym stays.settings.profile)

    parts_new : KeepsParts (record { is_open = true; objects = large'; inner = s' })
    parts_new = record {
      opened = stays.ready.opened;
      rules = stays.ready.rules;
      pages = stays.ready.pages;
      ones = stays.ready.ones;
      laid = subst (λ (u : ℕ). AreLaidOut u large' (objects s'.held)) part_still laid';
      counted = subst (λ (u : ℕ). AreInnerCounted (paging_in s') u large' (objects s'.held)) part_still
          (subst (λ (p : Paging). AreInnerCounted p u large' (objects s'.held)) (sym (same_paging s s' stays.settings)) counted');
    }

    kept_new : AreKept pages u lengths' large' s'
    kept_new = record {
      parts = parts_new;
      lengths_are = subst (λ (p : Profile). AreLengths lengths' large' p.proxies) (sym stays.settings.profile) known;
      part_bytes = part_still;
      some = kept.some;
      pages_are = kept.pages_are ∙ ap (λ (p : Profile). p.pages) (sym stays.settings.profile);
    }

    gathered_new : gathered_objects u lengths' (objects s'.held) ≡ large'
    gathered_new = all_gathered u s.profile.proxies lengths' large' (objects s'.held) kept.some laid' known

    pub valid_new : IsValid b pages u lengths' s'
    valid_new = subst (λ (b : Bool). IsValid b pages u lengths' s') (sym is_open)
        (subst (λ (o : Objects). AreKept pages u lengths' o s') (sym gathered_new) kept_new)

    pub view_new : large_state b u lengths' s' ≡ record { is_open = true; objects = large'; inner = s' }
    view_new = ap (λ (b : Bool). large_state b u lengths' s') is_open
        ∙ ap (λ (o : Objects). record { is_open = true; objects = o; inner = s' }) gathered_new

    pub stays_new : StaysKept old (large_state b u lengths' s')
    stays_new = subst (λ (x : LargeState). StaysKept old x) (sym view_new) (record {
      stays = record {
        open_now = refl;
        inner = record {
          kind = stays.settings.kind ∙ ap (λ (s : HeapState). s.kind) inner_is;
          open_now = stays.ready.opened;
          profile = stays.settings.profile ∙ ap (λ (s : HeapState). s.profile) inner_is;
        };
        promise = stays.promise ∙ ap (λ (s : HeapState). is_some s.order) inner_is;
      };
      parts = parts_new;
    })

    pub objects_new : (large_state b u lengths' s').objects ≡ large'
    objects_new = ap (λ (x : LargeState). x.objects) view_new

  -- a short object is written
  module _ (h at : ℕ) (bytes : List ℕ) (has : HasShort old h at (length bytes)) (s' : HeapState) (wrote : WritesInner s h at bytes s') where
    abbrev v : List ℕ
    v = has.bytes

    short : length has.bytes ≤ u
    short = (let e = part_is in let l = has.short in omega arith)

    there : get (objects s.held) h ≡ Some has.bytes
    there = laid.small h has.bytes has.found short

    object_is : wrote.object ≡ has.bytes
    object_is = same_Some wrote.object has.bytes (sym wrote.found ∙ there)

    abbrev w : List ℕ
    w = written has.bytes at bytes

    left : objects s'.held ≡ insert (objects s.held) h (written has.bytes at bytes)
    left = wrote.left ∙ ap (λ (o : List ℕ). insert (objects s.held) h (written o at bytes)) object_is

    same_length : length (written has.bytes at bytes) ≡ length has.bytes
    same_length = length-written has.bytes at bytes has.within

    never : u < length has.bytes → ⊥
    never long = (let l = short in omega arith)

    pub short_laid : AreLaidOut u (insert old.objects h (written has.bytes at bytes)) (objects s'.held)
    short_laid = subst (λ (o : Objects). AreLaidOut u (insert old.objects h (written has.bytes at bytes)) o) (sym left)
        (laid_changed u old.objects (objects s.held) laid h has.bytes has.found (insert (objects s.held) h w)
        (λ q not. get_insert_other (objects s.held) h w q (λ e. not (inl e)))
        w same_length (λ _. get_inserted (objects s.held) h w) (λ long. absurd (never long)) (λ long i lt. absurd (never long))
        (λ q c is. elim (some_inserted (objects s.held) h w q c is) [
          | inl (e, _) ↦ (has.bytes, ap (get (objects s.held)) e ∙ there)
          | inr (_, same) ↦ (c, same)
        ]))

    pub short_counted : AreInnerCounted (paging_in s) u (insert old.objects h (written has.bytes at bytes)) (objects s'.held)
    short_counted = subst (λ (o : Objects). AreInnerCounted (paging_in s) u (insert old.objects h (written has.bytes at bytes)) o) (sym left)
        (counted_written (paging_in s) u old.objects (objects s.held) h h has.bytes w has.bytes w counted has.found same_length there same_length)

    pub short_lengths : AreLengths lengths (insert old.objects h (written has.bytes at bytes)) s.profile.proxies
    short_lengths = lengths_same lengths old.objects s.profile.proxies h has.bytes w kept.lengths_are has.found same_length

  -- a short object has its bytes in the inner manager
  pub short_inner : (h at count : ℕ) → HasShort old h at count → HasInner s h at count
  short_inner h at count has = record {
    bytes = has.bytes;
    found = laid.small h has.bytes has.found (let e = part_is in let l = has.short in omega arith);
    within = has.within;
  }

  -- a part of a long object has its bytes in the inner manager
  module _ (h i at count : ℕ) (has : HasPartRange old h i at count) where
    long : u < length has.bytes
    long = (let e = part_is in let l = has.long in omega arith)

    below : i < part_count u (length has.bytes)
    below = subst (λ (u : ℕ). i < part_count u (length has.bytes)) (sym part_is) has.below

    inside : at + count ≤ u
    inside = (let e = part_is in let l = has.inside in omega arith)

    within : u * i + at + count ≤ length has.bytes
    within = subst (λ (u : ℕ). u * i + at + count ≤ length has.bytes) (sym part_is) has.within

    own : HasParts u (length has.bytes) (objects s.held) h
    own = has_parts u old.objects (objects s.held) laid h has.bytes has.found long

    pub handle_there : HasInner s h (4 * i) 4
    handle_there = record { bytes = own.spine.spine; found = own.spine.found; within = (let l = own.spine.long in let lt = below in omega arith) }

    pub part_found : get (objects s.held) (named (objects s.held) h i) ≡ Some (part_bytes_at u has.bytes i)
    part_found = laid.parts_are h has.bytes has.found long i below

    pub part_there : HasInner s (named (objects s.held) h i) at count
    part_there = record {
      bytes = part_bytes_at u has.bytes i;
      found = part_found;
      within = (let l = part_of_length u has.bytes i in let n = inside in let m = within in omega arith);
    }

    pub from_is : u * i + at ≡ part_bytes_in old * i + at
    from_is = ap (λ (u : ℕ). u * i + at) part_is

    -- a read of the part returns the bytes of the object
    pub part_reads : (v : List ℕ) → get old.objects h ≡ Some v → (out : List ℕ)
        → ((b : List ℕ) → get (objects s.held) (named (objects s.held) h i) ≡ Some b → out ≡ take count (drop at b))
        → out ≡ take count (drop (part_bytes_in old * i + at) v)
    part_reads v found out reads =
        let e = same_Some has.bytes v (sym has.found ∙ found) in
        reads (part_bytes_at u has.bytes i) part_found ∙ range_of_part u has.bytes i at count inside
        ∙ ap (λ (k : ℕ). take count (drop k has.bytes)) from_is ∙ ap (λ (w : List ℕ). take count (drop (part_bytes_in old * i + at) w)) e

  -- a write into the part writes into the object
  module _ (h i at : ℕ) (bytes : List ℕ) (has : HasPartRange old h i at (length bytes)) (s' : HeapState)
      (wrote : WritesInner s (named (objects s.held) h i) at bytes s') where
    abbrev q : ℕ
    q = named (objects s.held) h i

    abbrev part_bytes : List ℕ
    part_bytes = part_bytes_at u has.bytes i

    abbrev whole : List ℕ
    whole = written has.bytes (u * i + at) bytes

    abbrev mine : HasParts u (length has.bytes) (objects s.held) h
    mine = own h i at (length bytes) has

    fits : u * i + at + length bytes ≤ length has.bytes
    fits = within h i at (length bytes) has

    fits_part : at + length bytes ≤ length (part_bytes_at u has.bytes i)
    fits_part = (
        let l = part_of_length u has.bytes i in
        let n = inside h i at (length bytes) has in
        let m = within h i at (length bytes) has in
        omega arith)

    q_found : get (objects s.held) (named (objects s.held) h i) ≡ Some (part_bytes_at u has.bytes i)
    q_found = part_found h i at (length bytes) has

    part_is_object : wrote.object ≡ part_bytes_at u has.bytes i
    part_is_object = same_Some wrote.object (part_bytes_at u has.bytes i) (sym wrote.found ∙ q_found)

    part_left : objects s'.held ≡ insert (objects s.held) q (written part_bytes at bytes)
    part_left = wrote.left ∙ ap (λ (o : List ℕ). insert (objects s.held) q (written o at bytes)) part_is_object

    same_whole : length whole ≡ length has.bytes
    same_whole = length-written has.bytes (u * i + at) bytes fits

    is_long : u < length has.bytes
    is_long = long h i at (length bytes) has

    is_below : i < part_count u (length has.bytes)
    is_below = below h i at (length bytes) has

    parts_there : (j : ℕ) → j < part_count u (length has.bytes)
        → get (insert (objects s.held) q (written part_bytes at bytes)) (named (objects s.held) h j) ≡ Some (part_bytes_at u whole j)
    parts_there j lt = elim (cases_eq j i) [
      | inl is ↦ rw is (get_inserted (objects s.held) q (written part_bytes at bytes)
          ∙ ap (λ b. Some b) (sym (part_written u has.bytes i at bytes fits (inside h i at (length bytes) has))))
      | inr ne ↦ get_insert_other (objects s.held) q (written part_bytes at bytes) (named (objects s.held) h j) (λ e. ne (mine.apart j i lt is_below e))
          ∙ laid.parts_are h has.bytes has.found is_long j lt
          ∙ ap (λ b. Some b) (sym (part_other u has.bytes i at bytes fits (inside h i at (length bytes) has) j ne))
    ]

    pub long_laid : AreLaidOut u (insert old.objects h (written has.bytes (u * i + at) bytes)) (objects s'.held)
    long_laid = subst (λ (o : Objects). AreLaidOut u (insert old.objects h whole) o) (sym part_left)
        (laid_changed u old.objects (objects s.held) laid h has.bytes has.found (insert (objects s.held) q (written part_bytes at bytes))
        (λ r not. get_insert_other (objects s.held) q (written part_bytes at bytes) r (λ e. not (inr (is_long, (i, is_below, e)))))
        whole same_whole (λ short. absurd (let l = is_long in omega arith))
        (λ _. get_insert_other (objects s.held) q (written part_bytes at bytes) h (λ e. mine.not_spine i is_below (sym e)))
        (λ _ j lt. parts_there j lt)
        (λ r c is. elim (some_inserted (objects s.held) q (written part_bytes at bytes) r c is) [
          | inl (e, _) ↦ (part_bytes, ap (get (objects s.held)) e ∙ q_found)
          | inr (_, same) ↦ (c, same)
        ]))

    pub long_counted : AreInnerCounted (paging_in s) u (insert old.objects h (written has.bytes (u * i + at) bytes)) (objects s'.held)
    long_counted = subst (λ (o : Objects). AreInnerCounted (paging_in s) u (insert old.objects h whole) o) (sym part_left)
        (counted_written (paging_in s) u old.objects (objects s.held) h q has.bytes whole part_bytes (written part_bytes at bytes) counted has.found same_whole q_found
        (length-written part_bytes at bytes fits_part))

    pub long_lengths : AreLengths lengths (insert old.objects h (written has.bytes (u * i + at) bytes)) s.profile.proxies
    long_lengths = lengths_same lengths old.objects s.profile.proxies h has.bytes whole kept.lengths_are has.found same_whole

  -- there is room for the parts of an object
  pub object_room : (n : ℕ) → HasLargeRoom old n → HasObjectRoom u n s
  object_room n room = record {
    ready = ready;
    part_bytes = kept.part_bytes;
    fits = subst (λ (u : ℕ). FitsSpine u n) (sym part_is) room.fits;
    proxies = (
        let r = subst (λ (u : ℕ). inner_count u old.objects + length (inner_lengths u n) ≤ old.inner.profile.proxies) (sym part_is) room.proxies in
        let e = ap (λ (s : HeapState). s.profile.proxies) inner_is in
        let c = counted.all in omega arith);
    pages = (
        let r = subst (λ (u : ℕ). inner_pages_with (paging_in old.inner) u old.objects n ≤ old.inner.profile.pages) (sym part_is) room.pages in
        let r' : inner_pages_with (paging_in s) u old.objects n ≤ s.profile.pages =
        subst (λ (s : HeapState). inner_pages_with (paging_in s) u old.objects n ≤ s.profile.pages) (sym inner_is) r in
        let e = pages_counted (paging_in s) u old.objects (objects s.held) n counted in omega arith);
  }

  -- an object is made
  module _ (n h : ℕ) (s' : HeapState) where
    pub made_unused : MakesInner u n s h s' → get (objects s.held) h ≡ None
    made_unused (inl m) = m.unused
    made_unused (inr m) = m.grown.growing.unused

    pub made_stays : MakesInner u n s h s' → StaysReady s s'
    made_stays (inl m) = m.stays
    made_stays (inr m) = m.grown.stays

    pub made_laid : MakesInner u n s h s' → AreLaidOut u (insert old.objects h (replicate n 0)) (objects s'.held)
    made_laid (inl m) = subst (λ (o : Objects). AreLaidOut u (insert old.objects h (replicate n 0)) o) (sym m.left)
        (laid_more u old.objects (objects s.held) laid h (replicate n 0) (insert (objects s.held) h (replicate n 0))
        (new_short (paging_in s) u kept.some old.objects (objects s.held) laid counted h n m.unused m.short))
    made_laid (inr m) = laid_more u old.objects (objects s.held) laid h (replicate n 0) (objects s'.held)
        (new_long (paging_in s) u kept.some old.objects (objects s.held) laid counted h n m.grown.growing.unused m.long (objects s'.held) m.grown.growing)

    pub made_counted : MakesInner u n s h s' → AreInnerCounted (paging_in s) u (insert old.objects h (replicate n 0)) (objects s'.held)
    made_counted (inl m) = subst (λ (o : Objects). AreInnerCounted (paging_in s) u (insert old.objects h (replicate n 0)) o) (sym m.left)
        (counted_short (paging_in s) u kept.some old.objects (objects s.held) laid counted h n m.unused m.short)
    made_counted (inr m) =
        counted_long (paging_in s) u kept.some old.objects (objects s.held) laid counted h n m.grown.growing.unused m.long (objects s'.held) m.grown.growing

    -- the new handle is live, so it is below the number of proxies
    pub made_below : MakesInner u n s h s' → h < length lengths
    made_below (inl m) =
        let there : get (objects s'.held) h ≡ Some (replicate n 0) = ap (λ (o : Objects). get o h) m.left ∙ get_inserted (objects s.held) h (replicate n 0) in
        let lt = handle_below s' m.stays.ready h (replicate n 0) there in
        let e = ap (λ (p : Profile). p.proxies) m.stays.settings.profile in
        let l = kept.lengths_are.count in omega arith
    made_below (inr m) =
        let lt = handle_below s' m.grown.stays.ready h m.grown.growing.spine.spine m.grown.growing.spine.found in
        let e = ap (λ (p : Profile). p.proxies) m.grown.stays.settings.profile in
        let l = kept.lengths_are.count in omega arith

    pub made_lengths : MakesInner u n s h s' → AreLengths (set lengths h (Some n)) (insert old.objects h (replicate n 0)) s.profile.proxies
    made_lengths m = subst (λ (k : ℕ). AreLengths (set lengths h (Some k)) (insert old.objects h (replicate n 0)) s.profile.proxies) (length-replicate {A = ℕ} n 0)
        (lengths_more lengths old.objects s.profile.proxies h kept.lengths_are (made_below m) (replicate n 0))

  -- an object with this length
  module _ (h n : ℕ) (is : option_map length (get old.objects h) ≡ Some n) where
    pub object_there : (v : List ℕ) × (get old.objects h ≡ Some v) × (length v ≡ n)
    object_there = go (get old.objects h) refl is
      where
        go : (r : Option (List ℕ)) → get old.objects h ≡ r → option_map length r ≡ Some n → (v : List ℕ) × (get old.objects h ≡ Some v) × (length v ≡ n)
        go None _ e = absurd (let z : None ≡ Some n = e in cc)
        go (Some w) is_there e = (w, is_there, same_Some (length w) n e)

    -- the object's handle is below the number of proxies
    pub object_below : h < length lengths
    object_below = elim (cases_lt h (length lengths)) [
      | inl lt ↦ lt
      | inr past ↦ absurd (
          let e = kept.lengths_are.each h in
          let z : get_or lengths h None ≡ None = get_or_past lengths h None past in
          let y : Some n ≡ None = sym is ∙ sym e ∙ z in cc)
    ]

    pub has_inner_objects : HasInnerObjects u n s h
    has_inner_objects =
        let o = object_there in
        subst (λ (n : ℕ). HasInnerObjects u n s h) o.2 (elim (cases_lt u (length o.0)) [
          | inl long ↦ inr (long, has_parts u old.objects (objects s.held) laid h o.0 o.1 long)
          | inr short ↦ inl (short, (o.0, laid.small h o.0 o.1 short, refl))
        ])

    pub gone_stays : (s' : HeapState) → ReleasesInner u n s h s' → StaysReady s s'
    gone_stays s' (inl r) = r.stays
    gone_stays s' (inr r) = r.stays

    pub gone_laid : (s' : HeapState) → ReleasesInner u n s h s' → AreLaidOut u (remove old.objects h) (objects s'.held)
    gone_laid s' (inl r) =
        let o = object_there in
        let short : length o.0 ≤ u = (let e = o.2 in let l = r.short in omega arith) in
        subst (λ (m : Objects). AreLaidOut u (remove old.objects h) m) (sym r.left)
        (laid_less u old.objects (objects s.held) laid h o.0 o.1 (remove (objects s.held) h)
        (others_short (paging_in s) u kept.some old.objects (objects s.held) laid counted h o.0 o.1 short)
        (gone_short (paging_in s) u kept.some old.objects (objects s.held) laid counted h o.0 o.1 short))
    gone_laid s' (inr r) =
        let o = object_there in
        let long : u < length o.0 = (let e = o.2 in let l = r.long in omega arith) in
        let shrunk = subst (λ (n : ℕ). IsShrinking (paging_in s) u n (objects s.held) h (part_count u n) r.mid) (sym o.2) r.shrunk in
        subst (λ (m : Objects). AreLaidOut u (remove old.objects h) m) (sym r.left)
        (laid_less u old.objects (objects s.held) laid h o.0 o.1 (remove r.mid h)
        (others_long (paging_in s) u kept.some old.objects (objects s.held) laid counted h o.0 o.1 long r.mid shrunk)
        (gone_long (paging_in s) u kept.some old.objects (objects s.held) laid counted h o.0 o.1 long r.mid shrunk))

    pub gone_counted : (s' : HeapState) → ReleasesInner u n s h s' → AreInnerCounted (paging_in s) u (remove old.objects h) (objects s'.held)
    gone_counted s' (inl r) =
        let o = object_there in
        let short : length o.0 ≤ u = (let e = o.2 in let l = r.short in omega arith) in
        subst (λ (m : Objects). AreInnerCounted (paging_in s) u (remove old.objects h) m) (sym r.left)
        (counted_gone_short (paging_in s) u kept.some old.objects (objects s.held) laid counted h o.0 o.1 short)
    gone_counted s' (inr r) =
        let o = object_there in
        let long : u < length o.0 = (let e = o.2 in let l = r.long in omega arith) in
        let shrunk = subst (λ (n : ℕ). IsShrinking (paging_in s) u n (objects s.held) h (part_count u n) r.mid) (sym o.2) r.shrunk in
        let mine = has_parts u old.objects (objects s.held) laid h o.0 o.1 long in
        subst (λ (m : Objects). AreInnerCounted (paging_in s) u (remove old.objects h) m) (sym r.left)
        (counted_gone_long (paging_in s) u kept.some old.objects (objects s.held) laid counted h o.0 o.1 long r.mid shrunk mine.not_spine)

    pub gone_lengths : AreLengths (set lengths h None) (remove old.objects h) s.profile.proxies
    gone_lengths = lengths_less lengths old.objects s.profile.proxies h kept.lengths_are object_below

  -- What each call leaves.
  module _ (h at : ℕ) (bytes : List ℕ) (has : HasShort old h at (length bytes)) (s' : HeapState) (wrote : WritesInner s h at bytes s') where
    pub short_valid : IsValid b pages u lengths s'
    short_valid = valid_new s' lengths _ wrote.stays (short_laid h at bytes has s' wrote) (short_counted h at bytes has s' wrote)
        (short_lengths h at bytes has s' wrote)

    pub short_kept : StaysKept old (large_state b u lengths s')
    short_kept = stays_new s' lengths _ wrote.stays (short_laid h at bytes has s' wrote) (short_counted h at bytes has s' wrote)
        (short_lengths h at bytes has s' wrote)

    pub short_writes : WritesLarge old (record { number = h; from = at }) bytes (large_state b u lengths s')
    short_writes = record {
      object = has.bytes;
      found = has.found;
      within = has.within;
      left = objects_new s' lengths _ wrote.stays (short_laid h at bytes has s' wrote) (short_counted h at bytes has s' wrote)
          (short_lengths h at bytes has s' wrote);
    }

  module _ (h i at : ℕ) (bytes : List ℕ) (has : HasPartRange old h i at (length bytes)) (s' : HeapState)
      (wrote : WritesInner s (named (objects s.held) h i) at bytes s') where
    pub long_valid : IsValid b pages u lengths s'
    long_valid = valid_new s' lengths _ wrote.stays (long_laid h i at bytes has s' wrote) (long_counted h i at bytes has s' wrote)
        (long_lengths h i at bytes has s' wrote)

    pub long_kept : StaysKept old (large_state b u lengths s')
    long_kept = stays_new s' lengths _ wrote.stays (long_laid h i at bytes has s' wrote) (long_counted h i at bytes has s' wrote)
        (long_lengths h i at bytes has s' wrote)

    pub long_writes : WritesLarge old (record { number = h; from = part_bytes_in old * i + at }) bytes (large_state b u lengths s')
    long_writes = record {
      object = has.bytes;
      found = has.found;
      within = has.within;
      left = objects_new s' lengths _ wrote.stays (long_laid h i at bytes has s' wrote) (long_counted h i at bytes has s' wrote)
          (long_lengths h i at bytes has s' wrote)
          ∙ ap (λ (k : ℕ). insert old.objects h (written has.bytes k bytes)) (from_is h i at (length bytes) has);
    }

  module _ (n h : ℕ) (s' : HeapState) (room : HasLargeRoom old n) (m : MakesInner u n s h s') where
    pub made_valid : IsValid b pages u (set lengths h (Some n)) s'
    made_valid = valid_new s' (set lengths h (Some n)) _ (made_stays n h s' m) (made_laid n h s' m) (made_counted n h s' m) (made_lengths n h s' m)

    pub made_kept : StaysKept old (large_state b u (set lengths h (Some n)) s')
    made_kept = stays_new s' (set lengths h (Some n)) _ (made_stays n h s' m) (made_laid n h s' m) (made_counted n h s' m) (made_lengths n h s' m)

    pub made_gives : GivesLarge old h n (large_state b u (set lengths h (Some n)) s')
    made_gives = record {
      room = room;
      unused = not_large u old.objects (objects s.held) laid h (made_unused n h s' m);
      given = objects_new s' (set lengths h (Some n)) _ (made_stays n h s' m) (made_laid n h s' m) (made_counted n h s' m) (made_lengths n h s' m);
    }

  module _ (h n : ℕ) (is : option_map length (get old.objects h) ≡ Some n) (s' : HeapState) (r : ReleasesInner u n s h s') where
    pub gone_valid : IsValid b pages u (set lengths h None) s'
    gone_valid = valid_new s' (set lengths h None) _ (gone_stays h n is s' r) (gone_laid h n is s' r) (gone_counted h n is s' r) (gone_lengths h n is)

    pub gone_kept : StaysKept old (large_state b u (set lengths h None) s')
    gone_kept = stays_new s' (set lengths h None) _ (gone_stays h n is s' r) (gone_laid h n is s' r) (gone_counted h n is s' r) (gone_lengths h n is)

    pub gone_frees : FreesLarge old h (large_state b u (set lengths h None) s')
    gone_frees = record {
      bytes = (object_there h n is).0;
      found = (object_there h n is).1;
      left = objects_new s' (set lengths h None) _ (gone_stays h n is s' r) (gone_laid h n is s' r) (gone_counted h n is s' r) (gone_lengths h n is);
    }

  -- Why a malloc is refused, by what the code finds.
  fits_old : (n : ℕ) → FitsSpine u n → FitsSpine (part_bytes_in old) n
  fits_old n = subst (λ (u : ℕ). FitsSpine u n) part_is

  count_old : (n : ℕ) → len (objects s.held) + length (inner_lengths u n) ≡ inner_count (part_bytes_in old) old.objects + length (inner_lengths (part_bytes_in old) n)
  count_old n = (let c = counted.all in ap (λ k. k + length (inner_lengths u n)) c ∙ ap (λ (u : ℕ). inner_count u old.objects + length (inner_lengths u n)) part_is)

  proxies_old : length lengths ≡ old.inner.profile.proxies
  proxies_old = kept.lengths_are.count ∙ ap (λ (s : HeapState). s.profile.proxies) inner_is

  pages_old : pages ≡ old.inner.profile.pages
  pages_old = kept.pages_are ∙ ap (λ (s : HeapState). s.profile.pages) inner_is

  needed_old : (n : ℕ) → pages_for (paging_in s) (λ c. live (paging_in s) (objects s.held) c + in_class (paging_in s) c (inner_lengths u n))
      ≡ inner_pages_with (paging_in old.inner) (part_bytes_in old) old.objects n
  needed_old n = pages_counted (paging_in s) u old.objects (objects s.held) n counted
      ∙ ap (λ (u : ℕ). inner_pages_with (paging_in s) u old.objects n) part_is
      ∙ ap (λ (s : HeapState). inner_pages_with (paging_in s) (part_bytes_in old) old.objects n) inner_is

  live_total : (totals_in s.kind s).live ≡ len (objects s.held)
  live_total = by_kind s.kind ready.pages
    where
      by_kind : (k : Kind) → IsPaged k → (totals_in k s).live ≡ len (objects s.held)
      by_kind k is = rw (is, totals_in) refl

  -- the number of inner objects fits 64 bits
  pub count_small : (n count more : ℕ) → count ≡ (totals_in s.kind s).live → more ≡ length (inner_lengths u n) → n < 2 ^ 32 → count + more < 2 ^ 64
  count_small n count more count_is more_is small = (
      let c = live_total in
      let l = len-objects s.held in
      let few = ready.rules.numbers.few in
      let most = ready.rules.settings.few_proxies in
      let p = inner_lengths_few u n kept.some in omega arith)

  pub refused_proxies : (n count more : ℕ) → FitsSpine u n → count ≡ (totals_in s.kind s).live → more ≡ length (inner_lengths u n)
      → length lengths < count + more → LacksProxies old n
  refused_proxies n count more fits count_is more_is past = record {
    fits = fits_old n fits;
    past = (let a = count_old n in let b = proxies_old in let c = live_total in omega arith);
  }

  pub refused_pages : (n count more needed : ℕ) → FitsSpine u n → count ≡ (totals_in s.kind s).live → more ≡ length (inner_lengths u n)
      → count + more ≤ length lengths
      → needed ≡ pages_for (paging_in s) (λ c. live (paging_in s) (objects s.held) c + in_class (paging_in s) c (inner_lengths u n))
      → pages < needed → LacksPages old n
  refused_pages n count more needed fits count_is more_is few needed_is past = record {
    fits = fits_old n fits;
    proxies = (let a = count_old n in let b = proxies_old in let c = live_total in omega arith);
    past = (let a = needed_old n in let b = pages_old in omega arith);
  }

  pub not_refused : (n count more needed : ℕ) → FitsSpine u n → count ≡ (totals_in s.kind s).live → more ≡ length (inner_lengths u n)
      → count + more ≤ length lengths
      → needed ≡ pages_for (paging_in s) (λ c. live (paging_in s) (objects s.held) c + in_class (paging_in s) c (inner_lengths u n))
      → needed ≤ pages → HasLargeRoom old n
  not_refused n count more needed fits count_is more_is few needed_is enough = record {
    fits = fits_old n fits;
    proxies = (let a = count_old n in let b = proxies_old in let c = live_total in omega arith);
    pages = (let a = needed_old n in let b = pages_old in omega arith);
  }

  -- if nothing changes, the heap is kept
  pub same_kept : StaysKept old old
  same_kept = record {
    stays = record {
      open_now = opened;
      inner = record { kind = refl; open_now = ap (λ (s : HeapState). s.is_open) (sym inner_is) ∙ kept.parts.opened; profile = refl };
      promise = refl;
    };
    parts = keeps;
  }
