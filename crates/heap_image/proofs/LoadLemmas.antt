-- For `load` and `load_objects`: from how reading the settings and then the objects ended to what the whole load did: all loaded, a rule broken, the source
-- failed, or memory ran out. A manager that was just opened has the settings and no objects.
use Rattle.std.proofs.Common.{◌≡◌, ◌∙◌, ◌++◌, ℕ, Bool, true, false, List, [], Option, Some, None, refl, ap, sym, subst, append-nil}
use Rattle.std.specs.Prelude.{Result, Ok, Err}
use Rattle.std.specs.FinMap.{empty, get, get-empty}
use Rattle.std.specs.Ordering.{nat_cmp}
use Rattle.cf_base.specs.Settings.{Profile, profile_of}
use Rattle.cf_base.specs.declared.kind.Kind.{Kind}
use Rattle.cf_base.specs.declared.kind.Kind.TheVariants.{Moving}
use Rattle.cf_base.specs.declared.kind.Layout.TheVariants.{Words}
use Rattle.cf_base.specs.declared.settings.Settings.{Settings}
use Rattle.cf_base.proofs.Maps.{equal_maps}
use Rattle.cf_model.specs.Rules.{KeepsRules}
use Rattle.cf_model.specs.State.{HeapState, layout_of}
use Rattle.cf_model.specs.Steps.{IsClosed, IsEmptyHeap, opening_bounds}
use Rattle.id_table.specs.Sessions.{run_at}
use Rattle.id_table.proofs.CallerLemmas.{none_tied}
use Rattle.page_model.specs.Held.{objects}
use Rattle.page_model.specs.Paging.{EveryBoundIsOne, first_bounds, paging_of}
use Rattle.page_model.proofs.CallerLemmas.{first_ones}
use Rattle.id_table.specs.Sessions.{RunState, SessionState}
use Rattle.id_table.proofs.CallerLemmas.{costs_nothing, gone_by_id}
use Rattle.cf_io.specs.Feeds.{MayFollow}
use Rattle.cf_io.proofs.CallerLemmas.{nothing_follows}
use Rattle.heap_image.specs.Decoded.{BreaksNoRule, Decoded, breaks_after, count_decoded, cut, decoded, whole}
use Rattle.heap_image.specs.Ends.{EndsReading}
use Rattle.heap_image.specs.Feed.{Feed}
use Rattle.heap_image.specs.Heaps.{live_objects}
use Rattle.heap_image.specs.Load.{HoldsObjects, HoldsRead, IsLoading, LoadsBy, TakesNoMore}
use Rattle.heap_image.specs.Stages.{WholeFields, ReadsSettings, StopsInImage, StopsReading, DecodesAs, ReadsBroken}
use Rattle.heap_image.specs.declared.fault.LoadFault.{LoadFault}
use Rattle.heap_image.specs.declared.fault.LoadFault.TheVariants as fault
use Rattle.heap_image.proofs.StageLemmas.{broken_then, shows_then}

abbrev Reading : Type 0
Reading = List ℕ → Decoded

-- the bytes break a rule: how the load ends, whether the end cuts them or not
broken_row : (from to : RunState) (had left : Feed) (at : ℕ) (t : Decoded) → t.broken ≡ Some at → HoldsRead from t.settings t.objects to
    → ReadsBroken decoded had left t → LoadsBy from had (Err (fault.Bad at)) left to
broken_row from to had left at t broken holds q = record {
  taken = q.shows.taken;
  ended = t.is_cut;
  took = q.shows.took;
  row = λ more follows. (let row = by t.is_cut more q.stops follows in record {
    shown = t;
    reads = q.shows.reads;
    reads_all = row.0;
    broken = broken;
    no_more = row.1;
    holds = holds;
  });
}
  where
    by : (cut : Bool) (more : List ℕ) → StopsInImage decoded q.shows.taken t left cut → MayFollow left.rest cut more
        → (decoded (q.shows.taken ++ more) ≡ t) × TakesNoMore q.shows.taken more cut
    by true more stops follows =
        let none = nothing_follows left.rest more stops follows in
        (ap (λ (m : List ℕ). decoded (q.shows.taken ++ m)) none ∙ ap decoded (append-nil q.shows.taken) ∙ q.shows.reads, none)
    by false more stops follows = (stops.reads_on more, stops.last)

-- the source failed: how the load ends
part_row : (from to : RunState) (had left : Feed) (t : Decoded) → BreaksNoRule t → HoldsRead from t.settings t.objects to
    → DecodesAs decoded had left t → LoadsBy from had (Err fault.Read) left to
part_row from to had left t sound holds q = record {
  taken = q.taken;
  ended = false;
  took = q.took;
  row = λ more follows. record { shown = t; reads = q.reads; sound = sound; holds = holds };
}

-- the load stopped before it had the settings
pub settings_stop : (from : RunState) (had left : Feed) (f : LoadFault) → StopsReading None empty decoded had f left → LoadsBy from had (Err f) left from
settings_stop from had left (fault.Bad at) s = broken_row from from had left at s.0 s.1
    (subst (λ (p : Option Profile). HoldsRead from p s.0.objects from) (sym s.2) refl) s.4
settings_stop from had left fault.Read s = part_row from from had left s.0 s.4
    (subst (λ (p : Option Profile). HoldsRead from p s.0.objects from) (sym s.1) refl) s.3
settings_stop from had left fault.OutOfMemory s = absurd s

nothing_counted : (p : Profile) → count_decoded p [] ≡ cut (breaks_after p empty 16)
unfolding count_decoded
nothing_counted p = refl

-- an allocation failed at the opening, after the settings were read
pub settings_lack : (from to : RunState) (had left : Feed) (s : Settings) → ReadsSettings 16 decoded had left s → IsClosed from.heap to.heap
    → to.session ≡ from.session → LoadsBy from had (Err fault.OutOfMemory) left to
settings_lack from to had left s q closed session = record {
  taken = q.taken;
  ended = false;
  took = q.took;
  row = λ more follows. record {
    profile = profile_of s;
    shown = cut (breaks_after (profile_of s) empty 16);
    reads = ap decoded (sym (append-nil q.taken)) ∙ q.shows [] ∙ nothing_counted (profile_of s);
    settings = refl;
    few = q.few;
    lacks = record { closed = closed; session = session };
  };
}

-- once the settings are read, the load ends as the reading of the objects does
module _ (from to : RunState) (settings : Settings) (q : Profile) (had mid left : Feed) where
  pub loads_whole : q ≡ profile_of settings → WholeFields decoded had mid (count_decoded (profile_of settings)) → EndsReading (count_decoded q) q mid (Ok tt) left to
      → LoadsBy from had (Ok settings) left to
  loads_whole same passes shown =
      let ends = subst (λ (p : Profile). EndsReading (count_decoded p) p mid (Ok tt) left to) same shown in
      let shows = shows_then _ _ had mid left passes (whole (profile_of settings) ends.0) ends.1 in
      record {
        taken = shows.taken;
        ended = true;
        took = shows.took;
        row = λ more follows. record {
          ended = nothing_follows left.rest more ends.2 follows;
          objects = ends.0;
          reads = shows.reads;
          holds = ends.3;
        };
      }

  pub loads_bad : (f : LoadFault) → q ≡ profile_of settings → WholeFields decoded had mid (count_decoded (profile_of settings))
      → EndsReading (count_decoded q) q mid (Err f) left to
      → LoadsBy from had (Err f) left to
  loads_bad f same passes shown = by f (subst (λ (p : Profile). EndsReading (count_decoded p) p mid (Err f) left to) same shown)
    where
      by : (f : LoadFault) → EndsReading (count_decoded (profile_of settings)) (profile_of settings) mid (Err f) left to → LoadsBy from had (Err f) left to
      by (fault.Bad at) ends = broken_row from to had left at ends.0 ends.1
          (subst (λ (p : Option Profile). HoldsRead from p ends.0.objects to) (sym ends.2) ends.4) (broken_then _ _ had mid left passes ends.0 ends.3)
      by fault.Read ends = part_row from to had left ends.0 ends.3
          (subst (λ (p : Option Profile). HoldsRead from p ends.0.objects to) (sym ends.1) ends.4) (shows_then _ _ had mid left passes ends.0 ends.2)
      by fault.OutOfMemory ends = absurd ends

-- if whole fields were taken, after which U decodes as T does, and by U the load ended after them, then by T it ended so over all bytes taken
pub ends_then : (T U : Reading) (p : Profile) (had mid left : Feed) (r : Result Unit LoadFault) (to : RunState) → WholeFields T had mid U
    → EndsReading U p mid r left to → EndsReading T p had r left to
ends_then T U p had mid left (Ok u) to passes ends = (ends.0, shows_then T U had mid left passes _ ends.1, ends.2, ends.3)
ends_then T U p had mid left (Err (fault.Bad at)) to passes ends = (ends.0, ends.1, ends.2, broken_then T U had mid left passes ends.0 ends.3, ends.4)
ends_then T U p had mid left (Err fault.Read) to passes ends = (ends.0, ends.1, shows_then T U had mid left passes ends.0 ends.2, ends.3, ends.4)
ends_then T U p had mid left (Err fault.OutOfMemory) to passes ends = absurd ends

-- the number of objects wasn't read: the heap holds no objects
module _ (T : Reading) (p : Profile) (had left : Feed) (s : RunState) (loading : IsLoading s) (profile : s.heap.profile ≡ p) (none : live_objects s ≡ empty) where
  holds : (t : Decoded) → t.objects ≡ empty → HoldsObjects p t.objects s
  holds t is = record { loading = loading; profile = profile; objects = none ∙ sym is }

  pub stops_end : (f : LoadFault) → StopsReading (Some p) empty T had f left → EndsReading T p had (Err f) left s
  stops_end (fault.Bad at) q = (q.0, q.1, q.2, q.4, holds q.0 q.3)
  stops_end fault.Read q = (q.0, q.1, q.3, q.4, holds q.0 q.2)
  stops_end fault.OutOfMemory q = absurd q

  pub bad_end : (at : ℕ) → ReadsBroken T had left (breaks_after p empty at) → EndsReading T p had (Err (fault.Bad at)) left s
  bad_end at shows = (breaks_after p empty at, refl, refl, shows, holds (breaks_after p empty at) refl)

-- a manager that was just opened, and a session without ids
module _ (kind : Kind) (moving : kind ≡ Moving) (session : SessionState) (heap : HeapState) (settings : Settings) (one : settings.k ≡ 1)
    (idle : session.ids ≡ empty)
    (opened : IsEmptyHeap kind settings heap) (rules : KeepsRules heap) where
  moves : heap.kind ≡ Moving
  moves = ap (λ (s : HeapState). s.kind) opened.whole ∙ moving

  pub opened_profile : heap.profile ≡ profile_of settings
  opened_profile = ap (λ (s : HeapState). s.profile) opened.whole

  bounds : heap.bounds ≡ first_bounds (profile_of settings) Words
  bounds = ap (λ (s : HeapState). s.bounds) opened.whole ∙ ap (λ (k : Kind). opening_bounds k (profile_of settings)) moving

  pub opened_loading : IsLoading (run_at session heap)
  opened_loading = record {
    going = record {
      opened = ap (λ (s : HeapState). s.is_open) opened.whole;
      rules = rules;
      tied = record {
        ids = none_tied session.ids heap.held idle (ap (λ (s : HeapState). s.held) opened.whole);
        cost = costs_nothing heap.kind heap.cost session.bound (ap (λ (s : HeapState). s.cost) opened.whole);
      };
    };
    kind = moves;
    ones = subst EveryBoundIsOne (sym (λ i. paging_of (opened_profile i) (layout_of (moves i)) (bounds i))) (first_ones (profile_of settings) Words one);
  }

  pub opened_none : live_objects (run_at session heap) ≡ empty
  opened_none = equal_maps _ _ (λ id. gone_by_id session.ids (objects heap.held) id (ap (λ m. get m id) idle ∙ get-empty nat_cmp id)
      ∙ sym (get-empty nat_cmp id))
