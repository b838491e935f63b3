-- In memory a `Held` is its fields, a `LooseHeld`, whose heap is valid and shows the state of the `Held` (`FitsSliced`). Who owns the one may own the other, at
-- the same place.
use Rattle.std.proofs.Common.{◌≡◌, ℕ, List, [], ◌∷◌, refl, sym, ap, ◌∙◌, subst}
use Rattle.std.specs.Prelude.{IsTrue}
use seplogic.Ra.Ura.{Ura}
use base.Fraction.{full_share}
use base.Fml.{fsep, ftrue}
use mir.Val.{Val, vstruct, of_list}
use types.Logic.{Logic}
use types.Kit.{Item, Goal, Seq, Step, step, ‵, ◌$◌, drop, move, fsplit, fjoin, fpick, fpack, feq_i, feq_l}
use denote.RattleType.{RattleType, Valss, flat}
use denote.Memory.{cell_at, mem, part_of}
use denote.Steps.{nothing}
use denote.Struct.Struct.{within}
use denote.Struct.Declared.{shape, fields}
use Rattle.sliced_heap.specs.Shown.{IsValidSlicedIn, SlicedState, sliced_shown}
use Rattle.sliced_heap.specs.contracts.heap.SlicedHeap.TheInside as inside_heap
use Rattle.sliced_heap.specs.declared.heap.SlicedHeap.TheInside as heap_fields
use Rattle.norphuen_sliced.specs.contracts.held.Held.TheInside as inside_held
use Rattle.norphuen_sliced.specs.declared.held.Held.TheInside as held_fields
use Rattle.norphuen_sliced.specs.contracts.loose.LooseHeld as loose
use Rattle.norphuen_sliced.specs.declared.loose.LooseHeld.{LooseHeld}
use Rattle.norphuen_sliced.specs.HeldState.{SlicedHeldState}
use Rattle.c_base.specs.Lending.{IsLooseOf}
use Rattle.norphuen_sliced.specs.Loose.{FitsSliced, sliced_lending, sliced_loose_state}
use Rattle.norphuen_sliced.specs.Sliced.{open_sliced as T}

-- the type of the fields
abbrev pub S : RattleType
S = loose.the_row

-- the fields of a `Held` that shows the state x, and those of a heap that shows the state s
abbrev HeldOf : SlicedHeldState → Type 0
HeldOf x = (i : held_fields.Inside) × ((◌≡◌ {A = SlicedHeldState} (record { heap = i.heap; steps = i.steps; handles = i.handles }) x) × IsTrue i.heap.is_open)

abbrev HeapOf : SlicedState → Type 0
HeapOf s = (j : heap_fields.Inside) × ((sliced_shown j.inner ≡ s) × IsValidSlicedIn j.inner)

module _ {M : Type 1} {𝓤 : Ura M} {𝓛 : Logic 𝓤} {K : Type 0} {Γ : List (Item 𝓤)} {G : Goal 𝓤 𝓛.H} where
  pub loosen : K → (x : SlicedHeldState) (b o : ℕ) → ((a : LooseHeld) → IsLooseOf sliced_lending a x → Seq K 𝓛 (‵ ((mem S).own_at a b o) ∷ Γ) G)
      → Seq K 𝓛 (‵ ((mem T).own_at x b o) ∷ Γ) G
  unfolding part_of
  loosen t x b o k =
      fpick t (λ vs. fsplit t $ move t (1 ∷ []) $
      -- [what the `Held` owns; its cell]
      fpick t (λ (i : HeldOf x). fsplit t $ move t (1 ∷ []) $ drop t $ fpick t (λ vss. fsplit t $ feq_l t (λ whole. fsplit t $
      fpick t (λ (j : HeapOf i.0.heap). fsplit t $ move t (1 ∷ []) $ drop t $
      -- [what the heap's fields own; what the other fields own; the cell]
      let a : LooseHeld = record { heap = record { alloc = j.0.alloc; inner = j.0.inner }; steps = i.0.steps; memory = i.0.memory; handles = i.0.handles } in
      fjoin t $ feq_i t (List Val) vs (vstruct (of_list (flat (fields loose.the_type) vss)) ∷ []) whole $ fjoin t $
      fpack t (Valss (fields loose.the_type)) (within (shape loose.the_type) (loose.the_type.to a) vs) vss $
      move t (1 ∷ 0 ∷ []) $ fjoin t $ fpack t (List Val) (λ us. fsep (cell_at full_share S.mir us b o) (S.own_val a us)) vs $
      k a (record {
        fit = record { valid = j.1.1; open_now = subst (λ (s : SlicedState). IsTrue s.is_open) (sym j.1.0) i.1.1 };
        shown = ap (λ (s : SlicedState). record { heap = s; steps = i.0.steps; handles = i.0.handles }) j.1.0 ∙ i.1.0;
      }))))))

  pub tighten : K → (a : LooseHeld) (b o : ℕ) → FitsSliced a → Step K 𝓛 (‵ ((mem T).own_at (sliced_loose_state a) b o) ∷ Γ) G (‵ ((mem S).own_at a b o) ∷ Γ) G
  unfolding part_of
  tighten t a b o fit = step (λ s.
      let inner : SlicedState = sliced_shown a.heap.inner in let x = sliced_loose_state a in
      let i : held_fields.Inside = record { heap = inner; steps = a.steps; memory = a.memory; handles = a.handles } in
      let held_type = inside_held.the_type in
      fpick t (λ vs. fsplit t $ move t (1 ∷ []) $ fpick t (λ vss. fsplit t $ feq_l t (λ whole. fsplit t $
      -- [what the heap's fields own; what the other fields own; the cell]
      nothing t $ move t (1 ∷ 0 ∷ []) $ fjoin t $
      fpack t (HeapOf inner) (λ j. fsep (inside_heap.the_row.own_val j.0 vss.0) ftrue) (record { alloc = a.heap.alloc; inner = a.heap.inner }, (refl, fit.valid)) $
      fjoin t $ feq_i t (List Val) vs (vstruct (of_list (flat (fields loose.the_type) vss)) ∷ []) whole $ fjoin t $
      fpack t (Valss (fields held_type)) (within (shape held_type) (held_type.to i) vs) vss $
      nothing t $ move t (1 ∷ 0 ∷ []) $ fjoin t $
      fpack t (HeldOf x) (λ i. fsep (inside_held.the_row.own_val i.0 vs) ftrue) (i, (refl, fit.open_now)) $
      move t (1 ∷ 0 ∷ []) $ fjoin t $ fpack t (List Val) (λ us. fsep (cell_at full_share T.mir us b o) (T.own_val x us)) vs $ s))))
