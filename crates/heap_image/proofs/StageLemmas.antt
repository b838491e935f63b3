-- For the functions that load an image field by field (`Stages`): fields read in turn, and a field that is accepted, breaks a rule, is cut by the end or
-- can't be read. T and U decode bytes.
use Rattle.std.proofs.Common.{◌≡◌, ◌∙◌, ◌++◌, ◌+◌, ◌<◌, ℕ, Bool, true, false, List, [], ◌∷◌, Option, Some, length, refl, ap, sym, subst}
use Rattle.std.proofs.Common.{append_assoc, append-nil, arith, inl, inr, length-append}
use Rattle.std.proofs.lemmas.Bool.{cond-true, cond-false}
use Rattle.std.specs.Prelude.{Ok, if◌then◌else◌}
use Rattle.std.specs.Int.{Width, byte_len}
use Rattle.cf_base.specs.Settings.{Profile}
use Rattle.cf_io.specs.Feeds.{HasGiven}
use Rattle.page_model.specs.Held.{Objects}
use Rattle.cf_io.proofs.CallerLemmas.{preceded_after, preceded_none}
use Rattle.heap_image.specs.Decoded.{BreaksNoRule, Decoded, cut, number}
use Rattle.heap_image.specs.Feed.{Feed, TakesBytes}
use Rattle.heap_image.specs.Load.{LastBreaks}
use Rattle.heap_image.specs.Stages.{WholeFields, ReadsNumber, StopsInImage, StopsReading, StopsInField, DecodesAs, ReadsBroken}
use Rattle.heap_image.specs.declared.fault.LoadFault.{LoadFault}
use Rattle.heap_image.specs.declared.fault.LoadFault.TheVariants as fault
use Rattle.heap_image.proofs.Numbers.{number_cut, number_whole}

abbrev Reading : Type 0
Reading = List ℕ → Decoded

-- a source that returned n bytes and then k returned n + k
given_then : (n k a b c : ℕ) → HasGiven a n b → HasGiven b k c → HasGiven a (n + k) c
given_then n k a b c (inl x) (inl y) = inl (omega (arith, x, y))
given_then n k a b c (inl x) (inr y) = inr y
given_then n k a b c (inr x) (inl y) = inr (omega (arith, x, y))
given_then n k a b c (inr x) (inr y) = inr y

-- the bytes a and then the bytes b were taken
pub takes_then : (a b : List ℕ) (had mid left : Feed) → TakesBytes a had mid → TakesBytes b mid left → TakesBytes (a ++ b) had left
takes_then a b had mid left one next = record {
  first = preceded_after had.rest mid.rest left.rest a b one.first next.first;
  counted = subst (λ n. HasGiven had.given n left.given) (sym (length-append a b)) (given_then _ _ _ _ _ one.counted next.counted);
}

pub takes_nothing : (o : Feed) → TakesBytes [] o o
takes_nothing o = record { first = preceded_none o.rest; counted = inl (omega arith) }

module _ (T U : Reading) (had mid left : Feed) (p : WholeFields T had mid U) where
  pub passes_then : (V : Reading) → WholeFields U mid left V → WholeFields T had left V
  passes_then V q = record {
    taken = p.taken ++ q.taken;
    took = takes_then p.taken q.taken had mid left p.took q.took;
    shows = λ more. ap T (append_assoc p.taken q.taken more) ∙ p.shows (q.taken ++ more) ∙ q.shows more;
  }

  pub shows_then : (t : Decoded) → DecodesAs U mid left t → DecodesAs T had left t
  shows_then t q = record {
    taken = p.taken ++ q.taken;
    took = takes_then p.taken q.taken had mid left p.took q.took;
    reads = p.shows q.taken ∙ q.reads;
  }

  stops_on : (t : Decoded) (b : Bool) (taken : List ℕ) → StopsInImage U taken t left b → StopsInImage T (p.taken ++ taken) t left b
  stops_on t true taken spent = spent
  stops_on t false taken q = record {
    last = record {
      before = p.taken ++ q.last.before;
      last = q.last.last;
      are = ap (λ (l : List ℕ). p.taken ++ l) q.last.are ∙ sym (append_assoc p.taken q.last.before (q.last.last ∷ []));
      sound = subst (λ (d : Decoded). BreaksNoRule d) (sym (p.shows q.last.before)) q.last.sound;
    };
    reads_on = λ more. ap T (append_assoc p.taken taken more) ∙ p.shows (taken ++ more) ∙ q.reads_on more;
  }

  pub broken_then : (t : Decoded) → ReadsBroken U mid left t → ReadsBroken T had left t
  unfolding shows_then
  broken_then t q = record { shows = shows_then t q.shows; stops = stops_on t t.is_cut q.shows.taken q.stops }

  pub stops_then : (s : Option Profile) (o : Objects) (f : LoadFault) → StopsReading s o U mid f left → StopsReading s o T had f left
  stops_then s o (fault.Bad at) q = (q.0, q.1, q.2, q.3, broken_then q.0 q.4)
  stops_then s o fault.Read q = (q.0, q.1, q.2, shows_then q.0 q.3, q.4)
  stops_then s o fault.OutOfMemory q = absurd q

-- a list with at least one byte is some bytes and a last one
last_of : (bytes : List ℕ) → 0 < length bytes → (before : List ℕ) × (last : ℕ) × (bytes ≡ before ++ (last ∷ [])) × (length before < length bytes)
last_of [] some = absurd (omega arith)
last_of (x ∷ []) some = ([], x, refl, omega arith)
last_of (x ∷ y ∷ rest) some = (let l = last_of (y ∷ rest) (omega arith) in let less = l.3 in
    (x ∷ l.0, l.1, ap (λ (bytes : List ℕ). x ∷ bytes) l.2, omega arith))

-- a field breaks a rule, whatever follows it, and fewer of its bytes break none
pub field_breaks : (T : Reading) (field : List ℕ) (had left : Feed) (bad : Decoded) → bad.is_cut ≡ false → 0 < length field → TakesBytes field had left
    → ((more : List ℕ) → T (field ++ more) ≡ bad) → ((few : List ℕ) → length few < length field → BreaksNoRule (T few)) → ReadsBroken T had left bad
field_breaks T field had left bad rule some took shows sound = record {
  shows = record { taken = field; took = took; reads = ap T (sym (append-nil field)) ∙ shows [] };
  stops = subst (λ b. StopsInImage T field bad left b) (sym rule) (record { last = last_breaks; reads_on = shows });
}
  where
    last_breaks : LastBreaks T field
    last_breaks = (let l = last_of field some in record { before = l.0; last = l.1; are = l.2; sound = sound l.0 l.3 })

-- whole fields were taken and nothing after them: T decodes the bytes taken to what U decodes the empty list to
pub passes_part : (T U : Reading) (had left : Feed) (t : Decoded) → WholeFields T had left U → U [] ≡ t → DecodesAs T had left t
passes_part T U had left t p e = record { taken = p.taken; took = p.took; reads = ap T (sym (append-nil p.taken)) ∙ p.shows [] ∙ e }

-- A field of `room` bytes: fewer bytes decode to `bad`, marked as cut.
module _ (T : Reading) (room : ℕ) (bad : Decoded) (short : (bytes : List ℕ) → length bytes < room → T bytes ≡ cut bad) (had left : Feed) where
  pub falls_stops : (at : ℕ) (f : LoadFault) (s : Option Profile) (o : Objects) → bad.broken ≡ Some at → bad.settings ≡ s → bad.objects ≡ o
      → StopsInField room at had f left → StopsReading s o T had f left
  falls_stops at (fault.Bad b) s o broken settings objects q = (
    cut bad,
    broken ∙ ap (λ k. Some k) (sym q.0),
    settings,
    objects,
    record {
      shows = record { taken = q.1.taken; took = q.1.took; reads = short q.1.taken q.1.short };
      stops = q.2;
    },
  )
  falls_stops at fault.Read s o broken settings objects q = (
    cut bad,
    settings,
    objects,
    record {
      taken = q.taken;
      took = q.took;
      reads = short q.taken q.short;
    },
    inr refl,
  )
  falls_stops at fault.OutOfMemory s o broken settings objects q = absurd q

-- a field that is a number of width w, and must pass a test
module _ (w : Width) (bad : Decoded) (test : ℕ → Bool) (yes : ℕ → List ℕ → Decoded) (had left : Feed) (at : ℕ) where
  abbrev pub field : Reading
  field bytes = number w bytes bad (λ n rest. if test n then yes n rest else bad)

  tested : (n : ℕ) (r : ReadsNumber w at had (Ok n) left) (more : List ℕ) → field (r.0 ++ more) ≡ (if test n then yes n more else bad)
  tested n r more = number_whole w r.0 bad (λ n rest. if test n then yes n rest else bad) more r.1 ∙ ap (λ k. if test k then yes k more else bad) r.2

  field_cut : (few : List ℕ) → length few < byte_len w → field few ≡ cut bad
  field_cut few short = number_cut w few bad (λ n rest. if test n then yes n rest else bad) short

  -- the number is accepted
  pub field_shows : (n : ℕ) (r : ReadsNumber w at had (Ok n) left) → test n ≡ true → (more : List ℕ) → field (r.0 ++ more) ≡ yes n more
  field_shows n r e more = tested n r more ∙ cond-true _ _ _ e

  pub field_good : (n : ℕ) → ReadsNumber w at had (Ok n) left → test n ≡ true → WholeFields field had left (yes n)
  field_good n r e = record { taken = r.0; took = r.3; shows = field_shows n r e }

  -- the number breaks a rule
  pub field_bad : (n : ℕ) → ReadsNumber w at had (Ok n) left → test n ≡ false → bad.is_cut ≡ false → 0 < byte_len w → ReadsBroken field had left bad
  field_bad n r e rule wide =
      let long = r.1 in
      field_breaks field r.0 had left bad rule (omega arith) r.3 (λ more. tested n r more ∙ cond-false _ _ _ e)
      (λ few short. inr (ap (λ (d : Decoded). d.is_cut) (field_cut few (omega arith))))

  -- the number is cut, or can't be read
  pub field_stops : (f : LoadFault) (s : Option Profile) (o : Objects) → bad.broken ≡ Some at → bad.settings ≡ s → bad.objects ≡ o
      → StopsInField (byte_len w) at had f left → StopsReading s o field had f left
  field_stops f s o broken settings objects q = falls_stops field (byte_len w) bad field_cut had left at f s o broken settings objects q
