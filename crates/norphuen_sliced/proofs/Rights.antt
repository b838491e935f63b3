-- What a caller in C may do with the words of a region that a `Loan` owns. It owns them (`words_lie`), so it may read them, and write bytes of live
-- objects: then it owns the words of the heap's state after that write, and by the law `bytes_are_written` what makes the heap whole again is that of this
-- state. So it owns the `Loan` with this state, and may pass it to the next call. No function cites the law.
use Rattle.std.proofs.Common.{◌≡◌, ℕ, ◌+◌, ◌/◌, ◌%◌, List, length, refl, sym, ap, ◌∙◌, subst, Option, Some, None}
use Rattle.std.proofs.lemmas.Bool.{false≢true}
use Rattle.std.specs.Prelude.{IsTrue}
use seplogic.Ra.Ura.{Ura}
use base.Logic.{ent}
use types.Logic.{Logic, sem}
use denote.RawPtr.{Ptr}
use Rattle.sliced_heap.specs.Heap.{sliced_seen}
use Rattle.sliced_heap.specs.Layout.{IsValid}
use Rattle.sliced_heap.specs.Shown.{IsValidSlicedIn, SlicedState, sliced_shown}
use Rattle.sliced_heap.specs.declared.open_heap.OpenHeap.{OpenHeap}
use Rattle.sliced_heap.proofs.CallerLemmas.{lent_held, lent_valid}
use Rattle.norphuen_sliced.specs.HeldState.{SlicedHeldState}
use Rattle.c_base.specs.Lending.{IsLooseOf}
use Rattle.c_base.specs.Lent.{opened}
use Rattle.c_base.proofs.CallerLemmas.{again, replaced}
use Rattle.norphuen_sliced.specs.Loose.{sliced_held_all, sliced_inner_all, sliced_lending, sliced_region_all}
use Rattle.norphuen_sliced.specs.declared.loose.LooseHeld.{LooseHeld}
use Rattle.norphuen_sliced.specs.contracts.loose.LooseHeld.{the_row as loose_heap}
use Rattle.norphuen_sliced.specs.Written.{IsSlicedWritten}

-- a heap whose region was replaced before, with the words of t
module _ (h : OpenHeap) (ws : List ℕ) (k : IsValid (sliced_seen (sliced_region_all h ws))) (t : SlicedState) (q from : ℕ) (bytes : List ℕ)
    (w : IsSlicedWritten (sliced_shown (Some (sliced_region_all h ws))) t q from bytes) where
  abbrev h0 : OpenHeap
  h0 = sliced_region_all h ws

  abbrev left : OpenHeap
  left = record h0 { region = t.words }

  pub left_is : sliced_region_all h t.words ≡ left
  left_is = ap (λ (l : List ℕ). record h { region = l })
      (again h.region ws t.words (w.object.place + 1 + from / 8) ((from % 8 + length bytes + 7) / 8) (from % 8) bytes w.words)

  pub left_valid : IsValid (sliced_seen left)
  left_valid = lent_valid (sliced_seen h0) k w.idle q w.object w.found from bytes w.bytes_are w.some w.within (sliced_seen left) refl w.words

  pub left_shown : sliced_shown (Some left) ≡ t
  left_shown =
      ap (λ m. record (sliced_shown (Some h0)) { held = m; words = t.words }) (lent_held (sliced_seen h0) k w.idle q w.object w.found from bytes w.bytes_are w.some w.within (sliced_seen left)
      refl w.words)
      ∙ sym w.whole

-- the parts with the words of the state after a write are those of a heap of this state
fits_in : (o : Option OpenHeap) (ws : List ℕ) → IsValidSlicedIn (sliced_inner_all o ws) → (s : SlicedState) → sliced_shown (sliced_inner_all o ws) ≡ s → IsTrue s.is_open
    → (t : SlicedState) (q from : ℕ) (bytes : List ℕ) → IsSlicedWritten s t q from bytes
    → IsValidSlicedIn (sliced_inner_all o t.words) × (sliced_shown (sliced_inner_all o t.words) ≡ t)
fits_in None ws k s e is_open t q from bytes w = absurd (false≢true (ap (λ (u : SlicedState). u.is_open) e ∙ is_open))
fits_in (Some h) ws k s e is_open t q from bytes w =
    let v = subst (λ (u : SlicedState). IsSlicedWritten u t q from bytes) (sym e) w in
    let is = left_is h ws k t q from bytes v in (
      subst (λ (g : OpenHeap). IsValid (sliced_seen g)) (sym is) (left_valid h ws k t q from bytes v),
      ap (λ (g : OpenHeap). sliced_shown (Some g)) is ∙ left_shown h ws k t q from bytes v,
    )

module _ (x : SlicedHeldState) (a : LooseHeld) (of : IsLooseOf sliced_lending (sliced_held_all a x.heap.words) x) (t : SlicedState) (q from : ℕ) (bytes : List ℕ)
    (w : IsSlicedWritten x.heap t q from bytes) where
  shown_heap : sliced_shown (sliced_inner_all a.heap.inner x.heap.words) ≡ x.heap
  shown_heap = ap (λ (h : SlicedHeldState). h.heap) of.shown

  opens : IsTrue x.heap.is_open
  opens = subst (λ (s : SlicedState). IsTrue s.is_open) shown_heap of.fit.open_now

  two : IsValidSlicedIn (sliced_inner_all a.heap.inner t.words) × (sliced_shown (sliced_inner_all a.heap.inner t.words) ≡ t)
  two = fits_in a.heap.inner x.heap.words of.fit.valid x.heap shown_heap opens t q from bytes w

  open_after : IsTrue t.is_open
  open_after = ap (λ (s : SlicedState). s.is_open) w.whole ∙ opens

  pub still_of : IsLooseOf sliced_lending (sliced_held_all a t.words) (record x { heap = t })
  still_of = record {
    fit = record { valid = two.0; open_now = subst (λ (s : SlicedState). IsTrue s.is_open) (sym two.1) open_after };
    shown = λ k. record { heap = two.1 k; steps = (of.shown k).steps; handles = (of.shown k).handles };
  }

module _ {M : Type 1} {𝓤 : Ura M} (𝓛 : Logic 𝓤) where
  -- when the caller has written bytes into an object, what makes the heap whole again is that of the state after it
  pub bytes_are_written : (p u : Ptr) (x : SlicedHeldState) (t : SlicedState) (q from : ℕ) (bytes : List ℕ) → IsSlicedWritten x.heap t q from bytes
      → ent 𝓤 (sem 𝓛 (opened loose_heap sliced_lending p u x)) (sem 𝓛 (opened loose_heap sliced_lending p u (record x { heap = t })))
  bytes_are_written p u x t q from bytes w =
      replaced loose_heap sliced_lending 𝓛 p u x (record x { heap = t }) w.words.long (λ a of. still_of x a of t q from bytes w)
