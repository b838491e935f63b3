-- For `load_entries`, which loads the entries of an image one after the other and then tests for its end: what the bytes so far decode to. T and U are
-- functions that decode bytes.
use Rattle.std.proofs.Common.{◌≡◌, ◌≢◌, ◌∙◌, ◌++◌, ◌+◌, ◌-◌, ◌≤◌, ◌<◌, ℕ, suc, List, [], ◌∷◌, Some, None, length, refl, ap, sym, arith, inl}
use Rattle.std.specs.Prelude.{Result, Ok, Err}
use Rattle.std.specs.FinMap.{empty, get, get-empty, insert, len, len-empty}
use Rattle.std.specs.Ordering.{nat_cmp}
use Rattle.cf_base.specs.Settings.{Profile}
use Rattle.cf_base.proofs.Maps.{get_insert_other, len_fresh}
use Rattle.page_model.specs.Held.{Objects}
use Rattle.id_table.specs.Sessions.{RunState}
use Rattle.heap_image.specs.Decoded.{BreaksNoRule, Decoded, Reached, at_first, breaks_in, end_decoded, entries_decoded, entry_decoded, passed, whole}
use Rattle.heap_image.specs.Ends.{EndRead, EndsReading}
use Rattle.heap_image.specs.Entries.{ReadsEntry, reached_in}
use Rattle.heap_image.specs.Feed.{Feed, TakesBytes}
use Rattle.heap_image.specs.Heaps.{live_objects}
use Rattle.heap_image.specs.Load.{HoldsObjects, IsLoading}
use Rattle.heap_image.specs.Stages.{LeadsTo, WholeFields, StopsReading}
use Rattle.heap_image.specs.declared.fault.LoadFault.{LoadFault}
use Rattle.heap_image.specs.declared.fault.LoadFault.TheVariants as fault
use Rattle.heap_image.specs.declared.objects_in.Entry.{Entry}
use Rattle.heap_image.proofs.ImageDecoded.{entries_next}
use Rattle.heap_image.proofs.StageLemmas.{broken_then, field_breaks, passes_part, passes_then, takes_nothing, shows_then}

abbrev Reading : Type 0
Reading = List ℕ → Decoded

-- T and U decode all bytes alike: so before any byte is taken, U decodes what T decodes
pub passes_same : (T U : Reading) (had : Feed) → ((bytes : List ℕ) → T bytes ≡ U bytes) → WholeFields T had had U
passes_same T U had same = record { taken = []; took = takes_nothing had; shows = same }

reached_is : (next next2 at at2 : ℕ) (o o2 : Objects) → next ≡ next2 → o ≡ o2 → at ≡ at2
    → ◌≡◌ {A = Reached} (record { next = next; objects = o; at = at }) (record { next = next2; objects = o2; at = at2 })
reached_is next next2 at at2 o o2 a b c = λ i. record { next = a i; objects = b i; at = c i }

-- before the first entry all `count` entries are still to be decoded, from byte 20 on
pub entries_begin : (p : Profile) (count : ℕ) (s : RunState) (had : Feed) → live_objects s ≡ empty
    → WholeFields (entries_decoded p count at_first) had had (entries_decoded p (count - 0) (reached_in s 0 20))
entries_begin p count s had none = passes_same _ _ had (λ bytes.
    let same : count ≡ count - 0 = omega arith in
    let r : at_first ≡ reached_in s 0 20 = reached_is 0 0 20 20 empty (live_objects s) refl (sym none) refl in
    λ i. entries_decoded p (same i) (r i) bytes)

pub nothing_fresh : (s : RunState) → live_objects s ≡ empty → (id : ℕ) → get (live_objects s) id ≡ None
nothing_fresh s none id = ap (λ (o : Objects). get o id) none ∙ get-empty nat_cmp id

pub nothing_counts : (s : RunState) → live_objects s ≡ empty → len (live_objects s) ≡ 0
nothing_counts s none = ap len none ∙ len-empty nat_cmp (List ℕ)

-- after one more entry, one entry fewer is to be decoded
module _ (p q : Profile) (count i next at : ℕ) (had mid left : Feed) (old new : RunState) (e : Entry) (lt : i < count) (same : q ≡ p)
    (before : WholeFields (entries_decoded p count at_first) had mid (entries_decoded p (count - i) (reached_in old next at)))
    (entry : (go : Reached → List ℕ → Decoded) → ReadsEntry (λ bytes. entry_decoded q (reached_in old next at) bytes go) go old (reached_in old next at) mid
    (Ok e) left new)
    (fresh : (id : ℕ) → next ≤ id → get (live_objects old) id ≡ None) where
  abbrev go : Reached → List ℕ → Decoded
  go r rest = entries_decoded p (count - (i + 1)) r rest

  pub entry_leads : LeadsTo old new (insert (live_objects old) e.id (entry go).0)
  entry_leads = (entry go).4

  step : (bytes : List ℕ) → entries_decoded p (count - i) (reached_in old next at) bytes ≡ entry_decoded q (reached_in old next at) bytes go
  step bytes =
      let more : count - i ≡ suc (count - (i + 1)) = omega (arith, lt) in
      ap (λ n. entries_decoded p n (reached_in old next at) bytes) more ∙ entries_next p (count - (i + 1)) (reached_in old next at) bytes
      ∙ ap (λ (p : Profile). entry_decoded p (reached_in old next at) bytes go) (sym same)

  reached : passed (reached_in old next at) e.id (entry go).0 ≡ reached_in new (e.id + 1) (at + (6 + e.length))
  reached = reached_is _ _ _ _ _ _ refl (sym entry_leads.objects) (ap (λ n. at + (6 + n)) (entry go).1)

  pub entry_passes : WholeFields (entries_decoded p count at_first) had left (entries_decoded p (count - (i + 1)) (reached_in new (e.id + 1) (at + (6 + e.length))))
  entry_passes =
      let here = passes_then _ _ mid mid left (passes_same (entries_decoded p (count - i) (reached_in old next at))
      (λ bytes. entry_decoded q (reached_in old next at) bytes go) mid step) (go (passed (reached_in old next at) e.id (entry go).0)) (entry go).3 in
      let all = passes_then _ _ had mid left before (go (passed (reached_in old next at) e.id (entry go).0)) here in
      record { taken = all.taken; took = all.took; shows = λ more. all.shows more ∙ ap (λ (r : Reached). go r more) reached }

  pub entry_fresh : (id : ℕ) → e.id + 1 ≤ id → get (live_objects new) id ≡ None
  entry_fresh id le =
      let least = (entry go).2 in
      let ne : id ≢ e.id = (λ is. omega arith) in
      ap (λ (o : Objects). get o id) entry_leads.objects ∙ get_insert_other (live_objects old) e.id (entry go).0 id ne ∙ fresh id (omega arith)

  pub entry_counts : len (live_objects old) ≡ i → len (live_objects new) ≡ i + 1
  entry_counts n =
      let least = (entry go).2 in
      ap len entry_leads.objects ∙ len_fresh (live_objects old) e.id (entry go).0 (fresh e.id least) ∙ ap (λ k. k + 1) n

-- an entry wasn't read: the load ends there
pub entry_ends : (p q : Profile) (count i next at : ℕ) (had mid left : Feed) (old new : RunState) (f : LoadFault) → i < count → q ≡ p → old.heap.profile ≡ p
    → WholeFields (entries_decoded p count at_first) had mid (entries_decoded p (count - i) (reached_in old next at))
    → ((go : Reached → List ℕ → Decoded) → ReadsEntry (λ bytes. entry_decoded q (reached_in old next at) bytes go) go old (reached_in old next at) mid (Err f)
    left new)
    → EndsReading (entries_decoded p count at_first) p had (Err f) left new
entry_ends p q count i next at had mid left old new f lt same profile before entry = by f (entry go).0 (entry go).1
  where
    go : Reached → List ℕ → Decoded
    go r rest = entries_decoded p (count - (i + 1)) r rest

    all : WholeFields (entries_decoded p count at_first) had mid (λ bytes. entry_decoded q (reached_in old next at) bytes go)
    all = passes_then _ _ had mid mid before _ (passes_same _ _ mid (λ bytes.
        let more : count - i ≡ suc (count - (i + 1)) = omega (arith, lt) in
        ap (λ n. entries_decoded p n (reached_in old next at) bytes) more ∙ entries_next p (count - (i + 1)) (reached_in old next at) bytes
        ∙ ap (λ (p : Profile). entry_decoded p (reached_in old next at) bytes go) (sym same)))

    holds : (t : Decoded) → t.objects ≡ live_objects old → LeadsTo old new (live_objects old) → HoldsObjects p t.objects new
    holds t is w = record { loading = w.loading; profile = w.profile ∙ profile; objects = w.objects ∙ sym is }

    by : (f : LoadFault) → StopsReading (Some old.heap.profile) (live_objects old) (λ bytes. entry_decoded q (reached_in old next at) bytes go) mid f left
        → LeadsTo old new (live_objects old) → EndsReading (entries_decoded p count at_first) p had (Err f) left new
    by (fault.Bad b) s w = (s.0, s.1, s.2 ∙ ap (λ p. Some p) profile, broken_then _ _ had mid left all s.0 s.4, holds s.0 s.3 w)
    by fault.Read s w = (s.0, s.1 ∙ ap (λ p. Some p) profile, shows_then _ _ had mid left all s.0 s.3, s.4, holds s.0 s.2 w)
    by fault.OutOfMemory s w = absurd s

-- after the last entry the end is to be decoded
end_is : (p : Profile) (r : Reached) (bytes : List ℕ) → entries_decoded p 0 r bytes ≡ end_decoded p r bytes
unfolding entries_decoded
end_is p r bytes = refl

end_whole : (p : Profile) (r : Reached) → end_decoded p r [] ≡ whole p r.objects
unfolding end_decoded
end_whole p r = refl

end_broken : (p : Profile) (r : Reached) (byte : ℕ) (more : List ℕ) → end_decoded p r ((byte ∷ []) ++ more) ≡ breaks_in p r 0
unfolding end_decoded
end_broken p r byte more = refl

-- if no byte follows the last entry, no rule is broken
end_sound : (p : Profile) (r : Reached) (few : List ℕ) → length few < 1 → BreaksNoRule (end_decoded p r few)
end_sound p r [] short = inl (ap (λ (d : Decoded). d.broken) (end_whole p r))
end_sound p r (x ∷ rest) short = absurd (omega arith)

pub all_end : (p : Profile) (count i next at : ℕ) (had mid left : Feed) (s : RunState) (answer : Result Unit LoadFault) → count ≤ i → IsLoading s
    → s.heap.profile ≡ p
    → WholeFields (entries_decoded p count at_first) had mid (entries_decoded p (count - i) (reached_in s next at)) → EndRead at mid answer left
    → EndsReading (entries_decoded p count at_first) p had answer left s
all_end p count i next at had mid left s answer past loading profile before end = by answer end
  where
    r : Reached
    r = reached_in s next at

    all : WholeFields (entries_decoded p count at_first) had mid (end_decoded p r)
    all = record {
      taken = before.taken;
      took = before.took;
      shows = λ more. before.shows more ∙ (let none : count - i ≡ 0 = omega arith in ap (λ n. entries_decoded p n r more) none) ∙ end_is p r more;
    }

    here : TakesBytes [] mid left → WholeFields (entries_decoded p count at_first) had left (end_decoded p r)
    here none = passes_then _ _ had mid left all (end_decoded p r) (record { taken = []; took = none; shows = λ more. refl })

    holds : HoldsObjects p (live_objects s) s
    holds = record { loading = loading; profile = profile; objects = refl }

    by : (answer : Result Unit LoadFault) → EndRead at mid answer left → EndsReading (entries_decoded p count at_first) p had answer left s
    by (Ok u) end = (live_objects s, passes_part _ _ had left (whole p (live_objects s)) (here end.0) (end_whole p r), end.1, holds)
    by (Err (fault.Bad b)) end = (
      breaks_in p r 0,
      (let z : at + 0 ≡ b = omega (arith, end.0) in ap (λ k. Some k) z),
      refl,
      broken_then _ _ had mid left all (breaks_in p r 0)
          (field_breaks (end_decoded p r) (end.1.0 ∷ []) mid left (breaks_in p r 0) refl (omega arith) end.1.1 (λ more. end_broken p r end.1.0 more)
          (λ few short. end_sound p r few short)),
      holds,
    )
    by (Err fault.Read) end =
        (whole p (live_objects s), refl, passes_part _ _ had left (whole p (live_objects s)) (here end) (end_whole p r), inl refl, holds)
    by (Err fault.OutOfMemory) end = absurd end
