-- For `set_bound` of `class_bound.rt`: the count of live objects is that of the figures, and what the call does with and without live objects.
use Rattle.std.proofs.Common.{◌≡◌, ◌≢◌, ℕ, pos, true, false, Option, Some, None, refl, sym, ap, ◌∙◌, ◌≤◌, arith, lt-ltb, ne_eqb}
use Rattle.std.specs.Prelude.{is_some, nat_eq, nat_lt}
use Rattle.std.specs.FinMap.{len}
use Rattle.cf_base.specs.declared.results.Totals.{Totals}
use Rattle.cf_model.specs.Answers.{block_totals, class_with, totals_in, with_bound}
use Rattle.cf_model.specs.Families.{Family, IsPaged, paged, tiled}
use Rattle.cf_model.specs.Rules.{KeepsRules}
use Rattle.cf_model.specs.State.{HeapState, paging_in}
use Rattle.page_model.specs.Figures.{totals_of}
use Rattle.page_model.proofs.CallerLemmas.{len-objects}
use Rattle.held_heap.specs.Bound.{IsBoundCall, bound_code, class_with_bound}
use Rattle.held_heap.specs.HeldState.{HeldState}

abbrev figures_by : HeapState → Family → Totals
figures_by s f = elim f [ paged ↦ totals_of (paging_in s) s.held | tiled ↦ block_totals s ]

pub live_is : (s : HeapState) → IsPaged s.kind → (totals_in s.kind s).live ≡ len s.held
live_is s paged_now = ap (λ (f : Family). (figures_by s f).live) paged_now ∙ len-objects s.held

module _ (old : HeldState) (words k : ℕ) (least : 1 ≤ k) (most : k ≤ 64) where
  more : nat_lt 0 k ≡ true
  more = lt-ltb 0 k (omega (arith, least))

  less : nat_lt k 65 ≡ true
  less = lt-ltb k 65 (omega (arith, most))

  pub refused : len old.heap.held ≢ 0 → IsBoundCall old words k (pos 20) old
  refused some =
      let none : nat_eq (len old.heap.held) 0 ≡ false = ne_eqb (len old.heap.held) 0 some in
      let here : class_with_bound old.heap words k ≡ None = rw more (rw less (rw none refl)) in
      record {
        by_code = rw here (rw more (rw less (rw none refl)));
        whole = rw here refl;
        rules = λ e. absurd (let f : pos 20 ≡ pos 0 = e in cc);
      }

  module _ (empty_now : len old.heap.held ≡ 0) (new : HeapState) (is : new ≡ with_bound old.heap (class_with old.heap.kind old.heap words) k) (kept : KeepsRules new) where
    here : class_with_bound old.heap words k ≡ class_with old.heap.kind old.heap words
    here = rw more (rw less (rw empty_now refl))

    whole : ◌≡◌ {A = HeldState} (record old { heap = new }) (record old { heap = with_bound old.heap (class_with_bound old.heap words k) k })
    whole = ap (λ (h : HeapState). record old { heap = h }) (is ∙ ap (λ (o : Option ℕ). with_bound old.heap o k) (sym here))

    code_ok : (o : Option ℕ) → is_some o ≡ true → pos 0 ≡ bound_code old.heap k o
    code_ok None e = absurd (let f : false ≡ true = e in cc)
    code_ok (Some c) e = refl

    code_none : (o : Option ℕ) → is_some o ≡ false → pos 4 ≡ bound_code old.heap k o
    code_none None e = rw more (rw less (rw empty_now refl))
    code_none (Some c) e = absurd (let f : true ≡ false = e in cc)

    pub done : is_some (class_with old.heap.kind old.heap words) ≡ true → IsBoundCall old words k (pos 0) (record old { heap = new })
    done e = record { by_code = code_ok _ (ap is_some here ∙ e); whole = whole; rules = λ _. kept }

    pub unknown : is_some (class_with old.heap.kind old.heap words) ≡ false → IsBoundCall old words k (pos 4) (record old { heap = new })
    unknown e = record { by_code = code_none _ (ap is_some here ∙ e); whole = whole; rules = λ f. absurd (let h : pos 4 ≡ pos 0 = f in cc) }
