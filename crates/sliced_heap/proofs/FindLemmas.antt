-- For `start_clearing`, while no job is pending: an address that a number has is that of an object, and lies in the region; the header there holds the object's
-- length, and the class of this length is the object's.
use Rattle.std.proofs.Common.{◌≡◌, ℕ, ◌+◌, ◌/◌, ◌^◌, ◌<◌, length, get_or, Some, None, arith, sym, ◌∙◌, ap, subst}
use Rattle.std.specs.FinMap.{get}
use Rattle.cf_base.specs.Classes.{class_of}
use Rattle.page_model.specs.Arrangement.{class_at}
use Rattle.page_model.specs.Held.{Placed}
use Rattle.slice_model.specs.State.{Idle}
use Rattle.slice_model.specs.Words.{word_at}
use Rattle.sliced_heap.specs.Heap.{Heap}
use Rattle.sliced_heap.specs.Layout.{IsValid, sliced_paging, sliced_state_of}
use Rattle.page_model.specs.Paging.{class_for, classes}
use Rattle.page_slots.proofs.CallerLemmas.{class_is, class_some}
use Rattle.sliced_heap.proofs.Facts.{has_place, paging_ok, table_is}
use Rattle.sliced_heap.proofs.Headers.{head_length, holds, in_class, inside}

pub found : (h : Heap) (k : IsValid h) (q a : ℕ) → get h.proxies.places q ≡ Some a → (x : Placed) × (get (sliced_state_of h).held q ≡ Some x) × (x.place ≡ a)
found h k q a known = has_place h k q a known

module _ (h : Heap) (k : IsValid h) (idle : h.job ≡ Idle) (q a : ℕ) (known : get h.proxies.places q ≡ Some a) where
  abbrev w : (x : Placed) × (get (sliced_state_of h).held q ≡ Some x) × (x.place ≡ a)
  w = found h k q a known

  pub place_in : a < length h.words
  place_in = (let i = inside h k q w.0 w.1 in let o = holds h k q w.0 w.1 in let e = w.2 in omega arith)

  head_at : a ≡ word_at h.job q w.0 0
  head_at = sym w.2 ∙ (let e : w.0.place ≡ w.0.place + 0 = omega arith in e) ∙ sym (ap (λ j. word_at j q w.0 0) idle)

  -- the object's header holds its length
  module _ (size : ℕ) (shown : size ≡ get_or h.words a 0 / 2 ^ 32) where
    pub length_shown : size ≡ length (found h k q a known).0.bytes
    length_shown = shown ∙ head_length h k q w.0 w.1 a head_at

    pub has_class : None ≡ class_of h.classes.sizes size → ⊥
    has_class = class_some (paging_ok h k) (table_is h k) size
        (subst (λ n. class_for (sliced_paging h) n < classes (sliced_paging h)) (sym length_shown) (in_class h k q w.0 w.1))

    pub class_found : (c : ℕ) → Some c ≡ class_of h.classes.sizes size → class_at (sliced_paging h) (found h k q a known).0 ≡ c
    class_found c is = ap (class_for (sliced_paging h)) (sym length_shown) ∙ (class_is (paging_ok h k) (table_is h k) size c is).1
