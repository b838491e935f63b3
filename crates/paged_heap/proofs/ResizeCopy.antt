-- For resizes to another class: after `copy_to_slot` copied the object to a slot of that class, that slot has its header and its bytes, then zeros, and no word
-- outside of its two slots has changed.
use Rattle.std.proofs.Common.{◌≡◌, ◌≢◌, ℕ, zero, suc, ◌+◌, ◌*◌, ◌/◌, ◌%◌, ◌^◌, ◌<◌, ◌≤◌, List, length, get_or, set, arith, sym, ◌∙◌, ap, inl, inr}
use Rattle.std.specs.Prelude.{◌⊎◌}
use Rattle.std.proofs.lemmas.Bool.{cases_lt}
use Rattle.std.proofs.lemmas.List.{get_or-set_same, get_or-set_other, length-set}
use Rattle.page_model.specs.Bytes.{AreBytes, byte_of, bytes_at}
use Rattle.page_model.specs.Image.{IsOutside, header_word, object_word, slot_for}
use Rattle.page_model.specs.Steps.{IsFreePlace, resized}
use Rattle.page_model.proofs.CallerLemmas.{bytes_at-AreBytes, length-resized, place_is_zeros, resized_are_bytes}
use Rattle.paged_heap.specs.Heap.{Heap}
use Rattle.paged_heap.specs.declared.resize_class.Change.{Change}
use Rattle.paged_heap.specs.ResizeClass.{CopiesToSlot, IsChange, kept_words, old_words}
use Rattle.paged_heap.specs.Layout.{IsValid, held_in, paging_at}
use Rattle.paged_heap.proofs.ResizeInPlace.{holds_bytes}
use Rattle.paged_heap.proofs.ResizeEnter.{new_holds, new_inside, none_spare, slots_apart}
use Rattle.paged_heap.proofs.LayoutFacts.{paging_ok, owns}
use Rattle.paged_heap.proofs.ObjectWords.{before, few, past_new, past_old, was_byte, was_small, word_is, zero_byte}
use Rattle.page_slots.proofs.CallerLemmas.{it_slot}

module _ {h : Heap} (k : IsValid h) {x : Change} (is : IsChange h x) {b : ℕ} (free : IsFreePlace (paging_at h) (held_in h) x.bytes b) {new : List ℕ}
    (ca : CopiesToSlot h.words new x b) where
  abbrev old : List ℕ
  old = bytes_at h.words x.place

  -- the bytes of the object now
  abbrev pub bytes_now : List ℕ
  bytes_now = resized old x.bytes

  now_long : length bytes_now ≡ x.bytes
  now_long = length-resized old x.bytes

  pub are_now : AreBytes bytes_now
  are_now = resized_are_bytes old x.bytes (bytes_at-AreBytes h.words x.place)

  number_few : x.handle.0 < 2 ^ 32
  number_few = few k is.object

  -- the slots, and the words that are kept
  abbrev s : ℕ
  s = old_words h x

  abbrev z : ℕ
  z = slot_for (paging_at h) x.bytes

  abbrev w : ℕ
  w = kept_words x

  s_is : old_words h x ≡ slot_for (paging_at h) (length old)
  s_is = it_slot (owns k) is.object

  s_holds : 1 + (x.length + 7) / 8 ≤ s
  s_holds = holds_bytes k is.object

  z_in : b + z ≤ length h.words
  z_in = new_inside k is free

  z_holds : 1 + (x.bytes + 7) / 8 ≤ z
  z_holds = new_holds k is free

  apart : (b + z ≤ x.place) ⊎ (x.place + s ≤ b)
  apart = slots_apart k is free

  w_old : w ≤ (x.length + 7) / 8
  w_old = omega arith

  w_new : w ≤ (x.bytes + 7) / 8
  w_new = omega arith

  w_all : (8 * w < x.bytes → x.length ≤ 8 * w) × (8 * w < x.length → x.bytes ≤ 8 * w)
  w_all = ((λ lt. omega arith), (λ lt. omega arith))

  -- the words after the move
  abbrev mv : List ℕ
  mv = ca.moved

  moved_long : length mv ≡ length h.words
  moved_long = ca.long

  moved_kept : (i : ℕ) → i < w → get_or mv (b + suc i) 0 ≡ get_or h.words (x.place + suc i) 0
  moved_kept i lt =
      let to : b + suc i ≡ b + 1 + i = omega arith in
      let from : x.place + 1 + i ≡ x.place + suc i = omega arith in
      ap (λ v. get_or mv v 0) to ∙ ca.moves.arrived i lt ∙ ap (λ v. get_or h.words v 0) from

  moved_elsewhere : (v : ℕ) → IsOutside x.place s v → IsOutside (b + 1) w v → get_or mv v 0 ≡ get_or h.words v 0
  moved_elsewhere v far out = (
      let r = s_holds in let l = w_old in
      let far' : (v < x.place + 1) ⊎ (x.place + 1 + w ≤ v) = elim far [ inl l ↦ inl (omega arith) | inr l ↦ inr (omega arith) ] in
      ca.moves.others v far' out)

  -- a word of the new slot is none of the old one
  not_old : (i : ℕ) → i < z → IsOutside x.place s (b + i)
  not_old i lt = elim apart [ inl l ↦ inl (omega arith) | inr l ↦ inr (omega arith) ]

  moved_rest : (i : ℕ) → w ≤ i → suc i < z → get_or mv (b + suc i) 0 ≡ 0
  moved_rest i le lt =
      moved_elsewhere (b + suc i) (not_old (suc i) lt) (inr (omega arith))
      ∙ place_is_zeros (paging_at h) (paging_ok h k) (held_in h) k.sound h.words k.image x.bytes b free h.settings.proxies (none_spare h k) (suc i) lt

  -- the words after the cut
  abbrev cut : List ℕ
  cut = ca.cut

  cut_elsewhere : (v : ℕ) → IsOutside (b + 1) w v → get_or cut v 0 ≡ get_or mv v 0
  cut_elsewhere v out = elim (cases_lt x.bytes (8 * w)) [
    | inl less ↦ (ca.shorter less).others v (elim out [ inl l ↦ inl (omega arith) | inr l ↦ inr (omega arith) ])
    | inr le ↦ ap (λ ws. get_or ws v 0) (ca.as_long le)
  ]

  cut_long : length cut ≡ length h.words
  cut_long = elim (cases_lt x.bytes (8 * w)) [
    | inl less ↦ (ca.shorter less).long ∙ moved_long
    | inr le ↦ ap length (ca.as_long le) ∙ moved_long
  ]

  -- a kept word before it is cut
  kept_byte : (i j : ℕ) → i < w → j < 8 → byte_of j (get_or mv (b + suc i) 0) ≡ get_or old (8 * i + j) 0
  kept_byte i j lt less = (
      let r = s_holds in let l = w_old in let e = s_is in
      ap (byte_of j) (moved_kept i lt) ∙ was_byte k is.object i j (omega arith) less)

  kept_small : (i : ℕ) → i < w → get_or mv (b + suc i) 0 < 2 ^ 64
  kept_small i lt = (
      let r = s_holds in let l = w_old in let e = s_is in
      let m = moved_kept i lt in
      let f = was_small k is.object i (omega arith) in
      omega arith)

  abbrev IsWord : ℕ → Type 0
  IsWord i = ((j : ℕ) → j < 8 → byte_of j (get_or cut (b + suc i) 0) ≡ get_or bytes_now (8 * i + j) 0) × (get_or cut (b + suc i) 0 < 2 ^ 64)

  -- a word after the kept ones
  rest_word : (i : ℕ) → w ≤ i → suc i < z → IsWord i
  rest_word i le lt =
      let e : get_or cut (b + suc i) 0 ≡ 0 = cut_elsewhere (b + suc i) (inr (omega arith)) ∙ moved_rest i le lt in (
        (λ j less. ap (byte_of j) e ∙ zero_byte j ∙ elim (cases_lt (8 * i + j) x.bytes) [
          | inl inside ↦ (let a = w_all.0 (omega arith) in sym (past_old k is.object (8 * i + j) (omega arith)) ∙ before old x.bytes (8 * i + j) inside)
          | inr past ↦ sym (past_new old x.bytes (8 * i + j) past)
        ]),
        omega arith,
      )

  -- a kept word, if none is cut
  whole_word : 8 * w ≤ x.bytes → (i : ℕ) → i < w → IsWord i
  whole_word le i lt =
      let e : get_or cut (b + suc i) 0 ≡ get_or mv (b + suc i) 0 = ap (λ ws. get_or ws (b + suc i) 0) (ca.as_long le) in (
        (λ j less. ap (byte_of j) e ∙ kept_byte i j lt less ∙ before old x.bytes (8 * i + j) (omega arith)),
        (let f = kept_small i lt in omega arith),
      )

  -- a kept word, if the last one is cut
  cut_word : x.bytes < 8 * w → (i : ℕ) → i < w → IsWord i
  cut_word short i lt =
      let c = ca.shorter short in
      elim (cases_lt i (x.bytes / 8)) [
        | inl low ↦ (
            let e : get_or cut (b + suc i) 0 ≡ get_or mv (b + suc i) 0 = c.others (b + suc i) (inl (omega arith)) in (
              (λ j less. ap (byte_of j) e ∙ kept_byte i j lt less ∙ before old x.bytes (8 * i + j) (omega arith)),
              (let f = kept_small i lt in omega arith),
            ))
        | inr high ↦ (
            let a = w_new in
            let last : i ≡ x.bytes / 8 = omega arith in
            let at : b + suc i ≡ b + 1 + x.bytes / 8 = omega arith in
            let e = ap (λ v. get_or cut v 0) at in
            let f = ap (λ v. get_or mv v 0) at in (
              (λ j less. ap (byte_of j) e ∙ elim (cases_lt j (x.bytes % 8)) [
                | inl first ↦ c.low j first ∙ sym (ap (byte_of j) f) ∙ kept_byte i j lt less ∙ before old x.bytes (8 * i + j) (omega arith)
                | inr rest ↦ c.high j rest less ∙ sym (past_new old x.bytes (8 * i + j) (omega arith))
              ]),
              (let g = c.small in omega arith),
            ))
      ]

  any_word : (i : ℕ) → suc i < z → get_or cut (b + suc i) 0 ≡ object_word x.handle.0 bytes_now (suc i)
  any_word i lt =
      let word : IsWord i = elim (cases_lt i w) [
        | inl kept ↦ elim (cases_lt x.bytes (8 * w)) [
          | inl short ↦ cut_word short i kept
          | inr le ↦ whole_word le i kept
        ]
        | inr past ↦ rest_word i past lt
      ] in
      word_is x.handle.0 bytes_now i (get_or cut (b + suc i) 0) number_few now_small are_now word.1 word.0
    where
      now_small : length bytes_now < 2 ^ 32
      now_small = (let l = now_long in let r = z_holds in let i = z_in in let e = k.words_long in let f = h.settings.small_region in omega arith)

  -- the header is written
  headed : (v : ℕ) → get_or new v 0 ≡ get_or (set cut b (header_word x.handle.0 x.bytes)) v 0
  headed v = ap (λ ws. get_or ws v 0) ca.whole

  pub carried_long : length new ≡ length h.words
  carried_long = ap length ca.whole ∙ length-set cut b (header_word x.handle.0 x.bytes) ∙ cut_long

  pub arrived : (i : ℕ) → i < z → get_or new (b + i) 0 ≡ object_word x.handle.0 bytes_now i
  arrived zero lt = (
      let at : b + 0 ≡ b = omega arith in
      let inside : b < length cut = (let l = cut_long in let i = z_in in omega arith) in
      headed (b + 0) ∙ ap (λ v. get_or (set cut b (header_word x.handle.0 x.bytes)) v 0) at
      ∙ get_or-set_same cut b (header_word x.handle.0 x.bytes) 0 inside ∙ ap (header_word x.handle.0) (sym now_long))
  arrived (suc i) lt =
      headed (b + suc i) ∙ get_or-set_other cut b (b + suc i) (header_word x.handle.0 x.bytes) 0 (omega arith) ∙ any_word i lt

  pub untouched : (v : ℕ) → IsOutside x.place s v → IsOutside b z v → get_or new v 0 ≡ get_or h.words v 0
  untouched v far out =
      let r = z_holds in let l = w_new in
      let ne : v ≢ b = elim out [ inl l ↦ omega arith | inr l ↦ omega arith ] in
      let out' : IsOutside (b + 1) w v = elim out [ inl l ↦ inl (omega arith) | inr l ↦ inr (omega arith) ] in
      headed v ∙ get_or-set_other cut b v (header_word x.handle.0 x.bytes) 0 ne ∙ cut_elsewhere v out' ∙ moved_elsewhere v far out'
