-- What a caller in C may do with the words of a region that a `Loan` owns. It owns them (`words_lie`), so it may read them, and write bytes of live objects:
-- then it owns the words of the heap's state after that write, and by the law `bytes_are_written` what makes the heap whole again is that of this state. So it
-- owns the `Loan` with this state, and may pass it to the next call. No function cites the law.
use Rattle.std.proofs.Common.{◌≡◌, ℕ, ◌+◌, ◌/◌, ◌%◌, ◌≤◌, List, length, refl, sym, ap, ◌∙◌, subst, Option, Some, None, arith}
use Rattle.std.proofs.lemmas.Bool.{false≢true}
use Rattle.std.specs.Prelude.{IsTrue, is_some}
use Rattle.std.specs.FinMap.{get, insert}
use seplogic.Ra.Ura.{Ura}
use base.Logic.{ent}
use types.Logic.{Logic, sem}
use denote.RawPtr.{Ptr}
use Rattle.page_model.specs.Bytes.{bytes_at, written as bytes_written}
use Rattle.page_model.specs.Held.{Placed}
use Rattle.region.specs.Overwriting.{Overwrites}
use Rattle.cf_base.specs.declared.kind.Kind.TheVariants.{Moving}
use Rattle.cf_model.specs.State.{HeapState}
use Rattle.paged_heap.specs.Heap.{seen}
use Rattle.paged_heap.specs.Layout.{Holds, IsValid, IsValidIn, state_at, state_in}
use Rattle.paged_heap.specs.declared.open_heap.OpenHeap.{OpenHeap}
use Rattle.paged_heap.proofs.CallerLemmas.{has_place, no_place, lies, wrote, wrote_kept}
use Rattle.held_heap.specs.HeldState.{HeldState, IsOpenOfKind}
use Rattle.c_base.specs.Lending.{IsLooseOf}
use Rattle.c_base.specs.Lent.{opened}
use Rattle.c_base.proofs.CallerLemmas.{again, as_many, long, replaced}
use Rattle.held_heap.specs.Loose.{held_all, inner_all, lending, region_all}
use Rattle.held_heap.specs.declared.loose.LooseHeld.{LooseHeld}
use Rattle.held_heap.specs.contracts.loose.LooseHeld.{the_row as loose_heap}
use Rattle.held_heap.specs.Written.{IsWritten}

-- a heap whose region was replaced before, with the words of t
module _ (h : OpenHeap) (ws : List ℕ) (k : Holds Moving (region_all h ws)) (t : HeapState) (q from : ℕ) (bytes : List ℕ)
    (w : IsWritten 1 (state_at Moving (region_all h ws)) t q from bytes) where
  abbrev h0 : OpenHeap
  h0 = region_all h ws

  abbrev left : OpenHeap
  left = record h0 { region = t.words }

  many : length t.words ≡ length h.region
  many = as_many h.region ws t.words (w.object.place + 1 + from / 8) ((from % 8 + length bytes + 7) / 8) (from % 8) bytes w.words

  pub left_is : region_all h t.words ≡ left
  left_is = ap (λ (l : List ℕ). record h { region = l })
      (again h.region ws t.words (w.object.place + 1 + from / 8) ((from % 8 + length bytes + 7) / 8) (from % 8) bytes w.words)

  abbrev At : ℕ → Placed
  At a = record { place = a; bytes = bytes_at h0.region a }

  module _ (a : ℕ) (some : get h0.proxies.places q ≡ Some a) where
    same : w.object ≡ At a
    same = (let f = w.found in let g = has_place (seen Moving h0) k.kept q a some in cc)

    there : from + length bytes ≤ length (bytes_at h0.region a)
    there = subst (λ (x : Placed). from + length bytes ≤ length x.bytes) same w.within

    over : Overwrites h0.region left.region (record { from = a + 1 + from / 8; count = (from % 8 + length bytes + 7) / 8 }) (from % 8) bytes
    over = subst (λ (x : Placed). Overwrites h0.region left.region (record { from = x.place + 1 + from / 8; count = (from % 8 + length bytes + 7) / 8 }) (from % 8) bytes) same w.words

    kept : IsValid (seen Moving left)
    kept = wrote_kept (seen Moving h0) (seen Moving left) k.kept q from a bytes (lies (seen Moving h0) k.kept q a some from (length bytes) there) w.bytes_are refl over

    shown : state_at Moving left ≡ t
    shown =
        let v = wrote (seen Moving h0) (seen Moving left) k.kept q from a bytes (lies (seen Moving h0) k.kept q a some from (length bytes) there) w.bytes_are refl over in
        let is : v.object ≡ w.object = (let f = v.found in let g = w.found in cc) in
        v.whole
        ∙ ap (λ (x : Placed). record (state_at Moving h0) { held = insert (state_at Moving h0).held q (record x { bytes = bytes_written x.bytes from bytes }); words = t.words }) is
        ∙ sym w.whole

  by_place : (p : Option ℕ) → get h0.proxies.places q ≡ p → IsValid (seen Moving left) × (state_at Moving left ≡ t)
  by_place None e = absurd (false≢true (ap is_some (sym (no_place (seen Moving h0) k.kept q e) ∙ w.found)))
  by_place (Some a) e = (kept a e, shown a e)

  both : IsValid (seen Moving left) × (state_at Moving left ≡ t)
  both = by_place (get h0.proxies.places q) refl

  pub left_holds : Holds Moving left
  left_holds = record {
    laid = record {
      none = k.laid.none;
      small = (let l = many in let o = long h.region ws in let s = k.laid.small in omega arith);
    };
    kept = both.0;
  }

  pub left_shown : state_at Moving left ≡ t
  left_shown = both.1

-- the parts with the words of the state after a write are those of a heap of this state
fits_in : (o : Option OpenHeap) (ws : List ℕ) → IsValidIn Moving (inner_all o ws) → (s : HeapState) → state_in Moving (inner_all o ws) ≡ s → IsTrue s.is_open
    → (t : HeapState) (q from : ℕ) (bytes : List ℕ) → IsWritten 1 s t q from bytes
    → IsValidIn Moving (inner_all o t.words) × (state_in Moving (inner_all o t.words) ≡ t)
fits_in None ws k s e is_open t q from bytes w = absurd (false≢true (ap (λ (u : HeapState). u.is_open) e ∙ is_open))
fits_in (Some h) ws k s e is_open t q from bytes w =
    let v = subst (λ (u : HeapState). IsWritten 1 u t q from bytes) (sym e) w in
    let is = left_is h ws k t q from bytes v in
    (subst (Holds Moving) (sym is) (left_holds h ws k t q from bytes v), ap (state_at Moving) is ∙ left_shown h ws k t q from bytes v)

module _ (x : HeldState) (a : LooseHeld) (of : IsLooseOf lending (held_all a x.heap.words) x) (t : HeapState) (q from : ℕ) (bytes : List ℕ) (w : IsWritten 1 x.heap t q from bytes) where
  shown_heap : state_in Moving (inner_all a.heap.inner x.heap.words) ≡ x.heap
  shown_heap = ap (λ (h : HeldState). h.heap) of.shown

  opens : IsTrue x.heap.is_open
  opens = subst (λ (s : HeapState). IsTrue s.is_open) shown_heap of.fit.open_now.open_now

  two : IsValidIn Moving (inner_all a.heap.inner t.words) × (state_in Moving (inner_all a.heap.inner t.words) ≡ t)
  two = fits_in a.heap.inner x.heap.words of.fit.valid x.heap shown_heap opens t q from bytes w

  open_after : IsOpenOfKind Moving t
  open_after =
      let k = subst (IsOpenOfKind Moving) shown_heap of.fit.open_now in
      subst (IsOpenOfKind Moving) (sym w.whole) (record { open_now = k.open_now; kind = k.kind })

  pub still_of : IsLooseOf lending (held_all a t.words) (record x { heap = t })
  still_of = record {
    fit = record { valid = two.0; open_now = subst (IsOpenOfKind Moving) (sym two.1) open_after };
    shown = λ k. record { heap = two.1 k; steps = (of.shown k).steps; handles = (of.shown k).handles; counts = (of.shown k).counts };
  }

module _ {M : Type 1} {𝓤 : Ura M} (𝓛 : Logic 𝓤) where
  -- when the caller has written bytes into an object, what makes the heap whole again is that of the state after it
  pub bytes_are_written : (p u : Ptr) (x : HeldState) (t : HeapState) (q from : ℕ) (bytes : List ℕ) → IsWritten 1 x.heap t q from bytes
      → ent 𝓤 (sem 𝓛 (opened loose_heap lending p u x)) (sem 𝓛 (opened loose_heap lending p u (record x { heap = t })))
  bytes_are_written p u x t q from bytes w =
      replaced loose_heap lending 𝓛 p u x (record x { heap = t }) w.words.long (λ a of. still_of x a of t q from bytes w)
