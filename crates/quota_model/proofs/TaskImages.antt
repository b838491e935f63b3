-- For proofs about the words of a heap of tasks: if the words are the image of all tasks' objects, they are so after a malloc of a task, a free with or without
-- another object that moves, and a write. A free slot is in the region, all zeros, and no two objects share a word.
use Rattle.std.proofs.Common.{◌≡◌, ◌≢◌, ℕ, zero, suc, ◌+◌, ◌*◌, ◌/◌, ◌%◌, ◌<◌, ◌≤◌, List, Some, None, length, get_or, set, replicate, arith, ap, sym}
use Rattle.std.proofs.Common.{◌∙◌, inl, inr, subst}
use Rattle.std.specs.Prelude.{IsTrue}
use Rattle.std.proofs.lemmas.List.{get_or-set_other, get_or-set_same, length-replicate}
use Rattle.std.specs.FinMap.{get, insert, remove}
use Rattle.cf_base.specs.Limits.{is_page_size}
use Rattle.cf_base.specs.Settings.{Profile}
use Rattle.cf_base.proofs.Maps.{get_insert_other, get_inserted}
use Rattle.page_model.specs.Bytes.{written}
use Rattle.page_model.specs.Held.{Held, Placed}
use Rattle.page_model.specs.Image.{Clears, IsApartFrom, IsImage, IsOutside, IsSlotImage, MovesWords, Rewrites, header_word, object_word}
use Rattle.page_model.specs.Image.{slot_for}
use Rattle.page_model.specs.Paging.{class_for, slot_words}
use Rattle.page_model.specs.Steps.{MayFill, MustMove, Request, moved_to, zeros_at}
use Rattle.page_model.proofs.CallerLemmas.{fresh_word, disjoint_outside, image_added, image_after_bytes, image_after_free, image_exchanged, turned}
use Rattle.page_model.proofs.CallerLemmas.{mover_is_other, own_words, slot_inside}
use Rattle.page_model.proofs.CallerLemmas.{sound_apart_from}
use Rattle.quota_model.specs.Parts.{key_of, objects_of_task}
use Rattle.quota_model.specs.Refusals.{task_paging}
use Rattle.quota_model.specs.Shared.{IsShared, PlacesForTask, RemovesForTask}
use Rattle.quota_model.proofs.SharedMalloc.{stays_shared}
use Rattle.quota_model.proofs.SharedPages.{tasks_paged}
use Rattle.quota_model.proofs.TaskParts.{found_small, found_whole, get_part}
use Rattle.quota_model.proofs.WholeSound.{from_wide, to_wide, whole_sound, wide, wide_paged, wide_slot}

module _ (s : Profile) (m : Held) (shared : IsShared s m) (is_page : IsTrue (is_page_size s.page_words)) (words : List ℕ)
    (im : IsSlotImage (task_paging s) m words) where
  -- the words are also an image in which no slots occur
  pub own_image : IsImage m words
  own_image = own_words (wide s) (wide_paged s is_page) m (whole_sound s m shared) words (to_wide s m words im)

  -- an object of a task shares no word with another one
  pub apart_from : (t h : ℕ) (x : Placed) → get (objects_of_task m t) h ≡ Some x → IsApartFrom (slot_for (wide s)) m (key_of t h) x
  apart_from t h x found = sound_apart_from (wide s) m (whole_sound s m shared) (key_of t h) x (found_whole m t h x found)

  -- a malloc of a task
  module _ (t : ℕ) (asked : Request) (new : Held) (few : s.proxies ≤ 65536) (lt : t < 16) (step : PlacesForTask s m t asked new) where
    abbrev key : ℕ
    key = key_of t asked.number

    abbrev fresh : Placed
    fresh = zeros_at step.place asked.length

    small : asked.number < 65536
    small = (let r = step.in_range in omega arith)

    none : get m key ≡ None
    none = sym (get_part m t asked.number small) ∙ step.unused

    new_shared : IsShared s (insert m key fresh)
    new_shared = subst (IsShared s) step.placed (stays_shared s m t asked new few step is_page lt shared)

    size : length (replicate {A = ℕ} asked.length 0) ≡ asked.length
    size = length-replicate {A = ℕ} asked.length 0

    apart : IsApartFrom (slot_for (wide s)) m key fresh
    apart q y e ne = sound_apart_from (wide s) (insert m key fresh) (whole_sound s (insert m key fresh) new_shared) key fresh
        (get_inserted m key fresh) q y (get_insert_other m key fresh q ne ∙ e) ne

    not_key : (q : ℕ) (y : Placed) → get m q ≡ Some y → q ≢ key
    not_key q y e is = (let e' : get m key ≡ Some y = rw is at e in absurd (let z : Some y ≡ None = sym e' ∙ none in cc))

    -- the words of its slot are zeros
    pub zeros_there : (i : ℕ) → i < slot_for (task_paging s) asked.length → get_or words (step.place + i) 0 ≡ 0
    zeros_there i less =
        let w = wide_slot s asked.length in
        let less' : i < slot_for (wide s) (length fresh.bytes) = subst (λ n. i < slot_for (wide s) n) (sym size) (omega arith) in
        (to_wide s m words im).zeros (step.place + i) (λ q y e. disjoint_outside y.place (slot_for (wide s) (length y.bytes)) step.place
        (slot_for (wide s) (length fresh.bytes)) i (turned _ _ _ _ (apart q y e (not_key q y e))) less')

    pub place_inside : step.place + slot_for (task_paging s) asked.length ≤ s.pages * s.page_words
    place_inside = slot_inside (task_paging s) (class_for (task_paging s) asked.length) step.place (step.free).slot

    some_words : 4 ≤ slot_for (task_paging s) asked.length
    some_words = (tasks_paged s is_page).sized.least (class_for (task_paging s) asked.length) ((step.free).slot).class

    pub image_of_malloc : length words ≡ s.pages * s.page_words
        → IsSlotImage (task_paging s) new (set words step.place (header_word (key_of t asked.number) asked.length))
    image_of_malloc long = subst (λ n. IsSlotImage (task_paging s) n now) (sym step.placed) (from_wide s (insert m key fresh) now
        (image_added (slot_for (wide s)) m words now (to_wide s m words im) key fresh none apart (record {
          within = λ i l. written_at i (let w = wide_slot s asked.length in
              let l' : i < slot_for (wide s) asked.length = subst (λ n. i < slot_for (wide s) n) size l in omega arith);
          others = λ w out. get_or-set_other words step.place w (header_word key asked.length) 0 (outside_place w out);
        })))
      where
        now : List ℕ
        now = set words step.place (header_word key asked.length)

        inside : step.place < length words
        inside = (let i = place_inside in let o = some_words in omega arith)

        written_at : (i : ℕ) → i < slot_for (task_paging s) asked.length → get_or now (step.place + i) 0 ≡ object_word key (replicate asked.length 0) i
        written_at zero l = (
            let e : step.place + 0 ≡ step.place = omega arith in
            ap (λ a. get_or now a 0) e ∙ get_or-set_same words step.place (header_word key asked.length) 0 inside ∙ ap (header_word key) (sym size))
        written_at (suc i) l =
            get_or-set_other words step.place (step.place + suc i) (header_word key asked.length) 0 (omega arith) ∙ zeros_there (suc i) l
            ∙ sym (fresh_word key asked.length i)

        outside_place : (w : ℕ) → IsOutside step.place (slot_for (wide s) (length fresh.bytes)) w → w ≢ step.place
        outside_place w out =
            let o = some_words in let e = wide_slot s (length fresh.bytes) in
            let f : slot_for (task_paging s) (length fresh.bytes) ≡ slot_for (task_paging s) asked.length = ap (slot_for (task_paging s)) size in
            elim out [ inl l ↦ omega arith | inr l ↦ omega arith ]

  -- a free, or a write, of a task's object
  module _ (t h : ℕ) (x : Placed) (found : get (objects_of_task m t) h ≡ Some x) (words' : List ℕ) where
    there : get m (key_of t h) ≡ Some x
    there = found_whole m t h x found

    pub image_of_free : Clears words words' (record { from = x.place; count = slot_for (task_paging s) (length x.bytes) })
        → IsSlotImage (task_paging s) (remove m (key_of t h)) words'
    image_of_free clears = from_wide s (remove m (key_of t h)) words'
        (image_after_free (wide s) (wide_paged s is_page) m (whole_sound s m shared) words (to_wide s m words im) (key_of t h) x there words'
        (subst (λ n. Clears words words' (record { from = x.place; count = n })) (sym (wide_slot s (length x.bytes))) clears))

    pub image_of_move : (q : ℕ) (y : Placed) → get (objects_of_task m t) q ≡ Some y → MustMove (task_paging s) (objects_of_task m t) x
        → MayFill (task_paging s) (objects_of_task m t) x y
        → MovesWords words words' (record { from = y.place; count = slot_for (task_paging s) (length y.bytes) }) x.place
        → IsSlotImage (task_paging s) (insert (remove m (key_of t h)) (key_of t q) (record { place = x.place; bytes = y.bytes })) words'
    image_of_move q y other must may moves =
        let ne = mover_is_other (task_paging s) (tasks_paged s is_page) (objects_of_task m t) (shared.sound t) h x found q y other must may in
        let h_small = found_small m t h x found in
        let q_small = found_small m t q y other in
        let size : slot_for (wide s) (length y.bytes) ≡ slot_for (wide s) (length x.bytes) =
        wide_slot s (length y.bytes) ∙ ap (slot_words (task_paging s)) may.class ∙ sym (wide_slot s (length x.bytes)) in
        from_wide s (insert (remove m (key_of t h)) (key_of t q) (record { place = x.place; bytes = y.bytes })) words'
        (image_exchanged (slot_for (wide s)) m words words' (to_wide s m words im) (key_of t h) (key_of t q) x y there (found_whole m t q y other)
        (λ is. ne (omega arith)) (apart_from t h x found) (apart_from t q y other) size
        (subst (λ n. MovesWords words words' (record { from = y.place; count = n }) x.place) (sym (wide_slot s (length y.bytes))) moves))

    pub image_of_write : (at : ℕ) (bytes : List ℕ) → at + length bytes ≤ length x.bytes
        → Rewrites words words' (record { from = x.place + (1 + at / 8); count = (at % 8 + length bytes + 7) / 8 })
        (λ i. object_word (key_of t h) (written x.bytes at bytes) (1 + at / 8 + i))
        → IsSlotImage (task_paging s) (insert m (key_of t h) (record { place = x.place; bytes = written x.bytes at bytes })) words'
    image_of_write at bytes within rewrites = from_wide s (insert m (key_of t h) (record { place = x.place; bytes = written x.bytes at bytes })) words'
        (image_after_bytes (wide s) (wide_paged s is_page) m (whole_sound s m shared) words (to_wide s m words im) (key_of t h) x there words' at bytes
        within rewrites)

  -- the image after a free of a task (`RemovesForTask`): without and with another object that moves
  module _ (words' : List ℕ) (t h : ℕ) where
    pub removed_image : (new : Held) (step : RemovesForTask s m t h None new)
        → Clears words words' (record { from = (step.freed).place; count = slot_for (task_paging s) (length (step.freed).bytes) })
        → IsSlotImage (task_paging s) new words'
    removed_image new step clears = subst (λ n. IsSlotImage (task_paging s) n words') (sym step.left) (image_of_free t h step.freed step.found words' clears)

    pub moved_image : (q : ℕ) (y : Placed) (new : Held) (step : RemovesForTask s m t h (Some q) new) → get (objects_of_task m t) q ≡ Some y
        → MovesWords words words' (record { from = y.place; count = slot_for (task_paging s) (length y.bytes) }) (step.freed).place
        → IsSlotImage (task_paging s) new words'
    moved_image q y new step there moves =
        let moved = step.moves in
        let must : MustMove (task_paging s) (objects_of_task m t) step.freed = moved.0 in
        let z : Placed = moved.1.0 in
        let is : moved.1.0 ≡ y = (let a : get (objects_of_task m t) q ≡ Some moved.1.0 = moved.1.1 in let e : Some moved.1.0 ≡ Some y = sym a ∙ there in cc) in
        let may : MayFill (task_paging s) (objects_of_task m t) step.freed y = subst (MayFill (task_paging s) (objects_of_task m t) step.freed) is moved.1.2 in
        let whole : get m (key_of t q) ≡ Some y = found_whole m t q y there in
        let image = image_of_move t h step.freed step.found words' q y there must may moves in
        subst (λ n. IsSlotImage (task_paging s) n words') (sym step.left)
        (subst (λ o. IsSlotImage (task_paging s) (moved_to (remove m (key_of t h)) (key_of t q) o (step.freed).place) words') (sym whole) image)
