-- In memory a `Held` of the moving manager is its fields, a `LooseHeld`, whose heap is valid and open (`Fits`). Who owns the `Held` may own the `LooseHeld`
-- instead, at the same place, and the reverse.
use Rattle.std.proofs.Common.{◌≡◌, ℕ, List, [], ◌∷◌, refl, sym, ap, ◌∙◌, subst}
use seplogic.Ra.Ura.{Ura}
use base.Fraction.{full_share}
use base.Fml.{fsep, ftrue}
use mir.Val.{Val, vstruct, of_list}
use types.Logic.{Logic}
use types.Kit.{Item, Goal, Seq, Step, step, ‵, ◌$◌, drop, move, fsplit, fjoin, fpick, fpack, feq_i, feq_l}
use denote.RattleType.{RattleType, Valss, flat}
use denote.Memory.{cell_at, mem, part_of}
use denote.Steps.{nothing}
use denote.Struct.Struct.{within}
use denote.Struct.Declared.{shape, fields}
use Rattle.cf_base.specs.declared.kind.Kind.TheVariants.{Moving}
use Rattle.paged_heap.specs.Layout.{IsValidIn}
use Rattle.paged_heap.specs.PagedState.{PagedState, paged_in}
use Rattle.paged_heap.specs.contracts.manager.PagedHeap.{the_row as paged_heap}
use Rattle.paged_heap.specs.contracts.manager.PagedHeap.TheInside as inside_manager
use Rattle.paged_heap.specs.declared.manager.PagedHeap.TheInside as manager_fields
use Rattle.paged_heap.specs.contracts.manager.PagedHeapManager.TheImpl as manager
use Rattle.paged_heap.specs.contracts.manager.PagedHeapStepBounds.TheImpl as step_bounds
use Rattle.paged_heap.specs.contracts.page_kind.DirectPageKind.TheImpl as page_kind
use Rattle.virtual_words.specs.contracts.direct.Direct as direct
use Rattle.virtual_words.specs.contracts.direct.DirectMapping.TheImpl as mapping
use Rattle.held_heap.specs.contracts.of_kind.PagedHeapOfKind.TheImpl as of_kind
use Rattle.held_heap.specs.contracts.held.Held.TheInside as inside_held
use Rattle.held_heap.specs.declared.held.Held.TheInside as held_fields
use Rattle.held_heap.specs.contracts.loose.LooseHeld as loose
use Rattle.held_heap.specs.declared.loose.LooseHeld.{LooseHeld}
use Rattle.held_heap.specs.HeldState.{HeldState, IsOpenOfKind}
use Rattle.c_base.specs.Lending.{IsLooseOf}
use Rattle.held_heap.specs.Loose.{Fits, lending, loose_state_of}
use Rattle.held_heap.specs.Moving.{open_heap as T}

-- the type of the fields
abbrev pub S : RattleType
S = loose.the_row

-- the fields of a `Held` and those of its manager
abbrev HI : RattleType
HI = inside_held.the_row
    (paged_heap direct.the_row mapping.ghosts)
    (of_kind.ghosts direct.the_row page_kind.ghosts of_kind.no_dict mapping.ghosts of_kind.no_dict)
    (manager.ghosts direct.the_row page_kind.ghosts manager.no_dict mapping.ghosts manager.no_dict)
    (step_bounds.ghosts direct.the_row page_kind.ghosts step_bounds.no_dict mapping.ghosts step_bounds.no_dict)

abbrev MI : RattleType
MI = inside_manager.the_row direct.the_row mapping.ghosts

-- the fields of a `Held` that shows the state x, and those of a manager that shows the state s
abbrev HeldOf : HeldState → Type 0
HeldOf x = (i : held_fields.Inside PagedState) × ((◌≡◌ {A = HeldState} (record { heap = i.heap.state; steps = i.steps; handles = i.handles; counts = i.counts }) x) × IsOpenOfKind Moving i.heap.state)

abbrev ManagerOf : PagedState → Type 0
ManagerOf s = (j : manager_fields.Inside direct.the_row.Denot) × ((paged_in Moving j.inner ≡ s) × IsValidIn Moving j.inner)

module _ {M : Type 1} {𝓤 : Ura M} {𝓛 : Logic 𝓤} {K : Type 0} {Γ : List (Item 𝓤)} {G : Goal 𝓤 𝓛.H} where
  pub loosen : K → (x : HeldState) (b o : ℕ) → ((a : LooseHeld) → IsLooseOf lending a x → Seq K 𝓛 (‵ ((mem S).own_at a b o) ∷ Γ) G)
      → Seq K 𝓛 (‵ ((mem T).own_at x b o) ∷ Γ) G
  unfolding part_of
  loosen t x b o k =
      fpick t (λ vs. fsplit t $ move t (1 ∷ []) $
      -- [what the `Held` owns; its cell]
      fpick t (λ (i : HeldOf x). fsplit t $ move t (1 ∷ []) $ drop t $ fpick t (λ vss. fsplit t $ feq_l t (λ whole. fsplit t $
      fpick t (λ (j : ManagerOf i.0.heap). fsplit t $ move t (1 ∷ []) $ drop t $
      -- [what the manager's fields own; what the other fields own; the cell]
      let a : LooseHeld = record { heap = record { alloc = j.0.alloc; inner = j.0.inner; kind = j.0.kind }; steps = i.0.steps; memory = i.0.memory; handles = i.0.handles; counts = i.0.counts } in
      fjoin t $ feq_i t (List Val) vs (vstruct (of_list (flat (fields loose.the_type) vss)) ∷ []) whole $ fjoin t $
      fpack t (Valss (fields loose.the_type)) (within (shape loose.the_type) (loose.the_type.to a) vs) vss $
      move t (1 ∷ 0 ∷ []) $ fjoin t $ fpack t (List Val) (λ us. fsep (cell_at full_share S.mir us b o) (S.own_val a us)) vs $
      k a (record {
        fit = record { valid = j.1.1; open_now = subst (IsOpenOfKind Moving) (ap (λ (s : PagedState). s.state) (sym j.1.0)) i.1.1 };
        shown = ap (λ (s : PagedState). record { heap = s.state; steps = i.0.steps; handles = i.0.handles; counts = i.0.counts }) j.1.0 ∙ i.1.0;
      }))))))

  pub tighten : K → (a : LooseHeld) (b o : ℕ) → Fits a → Step K 𝓛 (‵ ((mem T).own_at (loose_state_of a) b o) ∷ Γ) G (‵ ((mem S).own_at a b o) ∷ Γ) G
  unfolding part_of
  tighten t a b o fit = step (λ s.
      let x = loose_state_of a in
      let inner : PagedState = paged_in Moving a.heap.inner in
      let i : held_fields.Inside PagedState = record { heap = inner; steps = a.steps; memory = a.memory; handles = a.handles; counts = a.counts } in
      let held_type = inside_held.the_type
      (paged_heap direct.the_row mapping.ghosts)
      (of_kind.ghosts direct.the_row page_kind.ghosts of_kind.no_dict mapping.ghosts of_kind.no_dict)
      (manager.ghosts direct.the_row page_kind.ghosts manager.no_dict mapping.ghosts manager.no_dict)
      (step_bounds.ghosts direct.the_row page_kind.ghosts step_bounds.no_dict mapping.ghosts step_bounds.no_dict) in
      fpick t (λ vs. fsplit t $ move t (1 ∷ []) $ fpick t (λ vss. fsplit t $ feq_l t (λ whole. fsplit t $
      -- [what the manager's fields own; what the other fields own; the cell]
      nothing t $ move t (1 ∷ 0 ∷ []) $ fjoin t $
      fpack t (ManagerOf inner) (λ j. fsep (MI.own_val j.0 vss.0) ftrue) (record { alloc = a.heap.alloc; inner = a.heap.inner; kind = a.heap.kind }, (refl, fit.valid)) $
      fjoin t $ feq_i t (List Val) vs (vstruct (of_list (flat (fields loose.the_type) vss)) ∷ []) whole $ fjoin t $
      fpack t (Valss (fields held_type)) (within (shape held_type) (held_type.to i) vs) vss $
      nothing t $ move t (1 ∷ 0 ∷ []) $ fjoin t $
      fpack t (HeldOf x) (λ i. fsep (HI.own_val i.0 vs) ftrue) (i, (refl, fit.open_now)) $
      move t (1 ∷ 0 ∷ []) $ fjoin t $ fpack t (List Val) (λ us. fsep (cell_at full_share T.mir us b o) (T.own_val x us)) vs $ s))))
