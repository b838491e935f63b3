-- For `open` and `load`: what is true of a heap that was just opened, and of one that was loaded; and why a load failed.
use Rattle.std.proofs.Common.{◌≡◌, ◌∙◌, ◌++◌, ◌≤◌, ℕ, List, [], Some, false, ap, refl, sym, subst, append-nil, arith}
use Rattle.std.specs.Prelude.{IsTrue, Ok, Err}
use Rattle.std.specs.FinMap.{empty, len, len-empty, get, get-empty}
use Rattle.std.specs.Ordering.{nat_cmp}
use Rattle.std.proofs.lemmas.Bool.{false≢true}
use Rattle.cf_base.specs.Settings.{profile_of}
use Rattle.cf_base.specs.declared.kind.Kind.{Kind}
use Rattle.cf_base.specs.declared.kind.Kind.TheVariants.{Moving}
use Rattle.cf_base.specs.declared.settings.Settings.{Settings}
use Rattle.cf_io.specs.Feeds.{SourceFailsIf, SourceState}
use Rattle.cf_model.specs.Rules.{KeepsRules, KeepsRulesOf}
use Rattle.cf_model.specs.State.{HeapState, closed_state, layout_of}
use Rattle.cf_model.specs.Steps.{IsEmptyHeap}
use Rattle.id_table.specs.Ids.{AreWithin}
use Rattle.id_table.specs.Sessions.{CostsAtMost, IsGoing, RunState, SessionState, fresh_session, run_at}
use Rattle.id_table.specs.Ties.{AreTiedTo}
use Rattle.id_table.proofs.CallerLemmas.{clash, costs_nothing, none_tied}
use Rattle.heap_image.specs.Decoded.{decoded}
use Rattle.heap_image.specs.Feed.{feed_of, is_unread}
use Rattle.heap_image.specs.Heaps.{live_objects}
use Rattle.heap_image.specs.Load.{LoadsAll, LoadsBy}
use Rattle.heap_image.specs.declared.fault.LoadFault.{LoadFault}
use Rattle.heap_image.specs.declared.fault.LoadFault.TheVariants as fault
use Rattle.heap_image.proofs.CallerLemmas.{observed_load}
use Rattle.page_model.specs.Paging.{first_bounds}
use Rattle.paged_heap.specs.Bounds.{HasFewNotFull, with_bounds}
use Rattle.norphuen_images.specs.Calls.{HoldsImage, IsFreshRun, IsLoadFault, at_bound}
use Rattle.norphuen_images.specs.State.{IsNamed}

pub fresh : (s : Settings) (names : SessionState) (closed heap : HeapState) → names ≡ fresh_session → closed ≡ closed_state Moving → IsEmptyHeap closed.kind s heap
    → KeepsRules heap → IsFreshRun (profile_of s) (run_at names heap)
fresh s names closed heap new moving empty rules = let opened = subst (λ (k : Kind). IsEmptyHeap k s heap) (ap (λ (h : HeapState). h.kind) moving) empty in record {
  whole = opened.whole;
  session = new;
  named = record {
    going = record {
      opened = ap (λ (h : HeapState). h.is_open) opened.whole;
      rules = rules;
      tied = record {
        ids = none_tied names.ids heap.held (ap (λ (n : SessionState). n.ids) new) (ap (λ (h : HeapState). h.held) opened.whole);
        cost = costs_nothing heap.kind heap.cost names.bound (ap (λ (h : HeapState). h.cost) opened.whole);
      };
    };
    kind = ap (λ (h : HeapState). h.kind) opened.whole;
    within = record {
      below = λ id n is. clash (get names.ids id) n is (ap (λ (n : SessionState). get n.ids id) new ∙ get-empty nat_cmp id);
      few = (let none = ap (λ (n : SessionState). len n.ids) new ∙ len-empty nat_cmp ℕ in omega (arith, none));
    };
    profile = ap (λ (h : HeapState). h.profile) opened.whole;
  };
}

module _ (from to : RunState) (had left : SourceState) (bytes : List ℕ) (whole : had.rest ≡ Some bytes) where
  module _ (settings : Settings) (loads : LoadsBy from (feed_of had) (Ok settings) (feed_of left) to) where
    taken_are : bytes ≡ loads.taken ++ []
    taken_are = (let seen = observed_load from to (feed_of had) (feed_of left) (Ok settings) loads bytes whole in
        seen.1 ∙ ap (λ (more : List ℕ). loads.taken ++ more) seen.2.ended)

    loaded : LoadsAll loads.taken [] settings to
    loaded = (let seen = observed_load from to (feed_of had) (feed_of left) (Ok settings) loads bytes whole in
        record { ended = refl; objects = seen.2.objects; reads = seen.2.reads; holds = seen.2.holds })

    going : IsGoing to
    going = loaded.holds.loading.going

    pub open_now : IsTrue to.heap.is_open
    open_now = going.opened

    -- with the bound 1 no class has more than one partly full page
    pub few : (k : ℕ) → 1 ≤ k → HasFewNotFull to.heap k
    few k least c lt =
        let pages = (subst (λ (kind : Kind). KeepsRulesOf kind to.heap) loaded.holds.loading.kind going.rules.of_kind).0 in
        let low = pages.sound.few_not_full c lt in
        let one = loaded.holds.loading.ones c lt in
        omega arith

    module _ (within : AreWithin to.session.ids) (k : ℕ) (new : HeapState) (is : new ≡ with_bounds to.heap k) (rules : KeepsRules new) where
      pub named : IsNamed (at_bound k (profile_of settings)) (run_at to.session new)
      named = record {
        going = record {
          opened = ap (λ (s : HeapState). s.is_open) is ∙ going.opened;
          rules = rules;
          tied = record {
            ids = subst (λ (s : HeapState). AreTiedTo to.session.ids s.held) (sym is) going.tied.ids;
            cost = subst (λ (s : HeapState). CostsAtMost s.kind s.cost to.session.bound) (sym is) going.tied.cost;
          };
        };
        kind = ap (λ (s : HeapState). s.kind) is ∙ loaded.holds.loading.kind;
        within = within;
        profile = ap (λ (s : HeapState). s.profile) is ∙ ap (at_bound k) loaded.holds.profile;
      }

      pub holds : HoldsImage bytes k (run_at to.session new)
      holds = record {
        profile = profile_of settings;
        objects = loaded.objects;
        reads = ap decoded (taken_are ∙ append-nil loads.taken) ∙ loaded.reads;
        named = named;
        bounds = ap (λ (s : HeapState). s.bounds) is
            ∙ (λ i. first_bounds (at_bound k (loaded.holds.profile i)) (layout_of (loaded.holds.loading.kind i)));
        holds = ap (λ (s : HeapState). live_objects (run_at to.session s)) is ∙ loaded.holds.objects;
      }

  pub fault_is : (e : LoadFault) → LoadsBy from (feed_of had) (Err e) (feed_of left) to → SourceFailsIf (is_unread {T = Settings} (Err e)) had left
      → left.last_failed ≡ false → IsLoadFault bytes e
  fault_is (fault.Bad at) loads fails sure =
      let seen = observed_load from to (feed_of had) (feed_of left) (Err (fault.Bad at)) loads bytes whole in
      ap (λ (b : List ℕ). (decoded b).broken) seen.1 ∙ ap (λ d. d.broken) seen.2.reads_all ∙ seen.2.broken
  fault_is fault.Read loads fails sure = absurd (false≢true (sym sure ∙ fails.1))
  fault_is fault.OutOfMemory loads fails sure = tt
