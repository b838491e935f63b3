-- For `resize_in_place` and `zero_tail`: an object gets another length in its slot, and the bytes that are cut off become zeros. The heap keeps its invariant
-- and its order. For resizes to another class too: an object's bytes lie in its slot and in the region.
use Rattle.std.proofs.Common.{◌≡◌, ◌≢◌, ℕ, zero, suc, ◌+◌, ◌-◌, ◌*◌, ◌/◌, ◌%◌, ◌^◌, ◌<◌, ◌≤◌, List, length, get_or, set, take, drop, replicate, None, arith}
use Rattle.std.proofs.Common.{sym, ◌∙◌, ap, subst, inl, inr}
use Rattle.std.proofs.lemmas.Bool.{cases_eq, cases_lt}
use Rattle.std.proofs.lemmas.List.{get_or-drop, get_or-take, length-take, get_or-replicate, get_or-set_same, get_or-set_other, length-set}
use Rattle.std.proofs.Common.{length-drop}
use Rattle.std.specs.FinMap.{insert}
use Rattle.cf_base.specs.Classes.{need}
use Rattle.cf_base.specs.declared.results.Resized.{Resized}
use Rattle.cf_base.proofs.MapValues.{map_values-insert}
use Rattle.page_model.specs.Held.{Placed, objects}
use Rattle.page_model.specs.Bytes.{AreBytes, byte_of, bytes_at}
use Rattle.page_model.specs.Image.{Clears, IsOutside, IsSlotImage, Rewrites, header_word, object_word, slot_for}
use Rattle.page_model.specs.Paging.{class_for, classes, slot_words}
use Rattle.page_model.specs.Order.{ResizeFollows}
use Rattle.page_model.specs.Steps.{CallResult, resized}
use Rattle.page_model.proofs.CallerLemmas.{bytes_at-AreBytes, length-resized, image_after_write, resized_are_bytes, class_holds}
use Rattle.region.proofs.CallerLemmas.{overwritten_before, overwritten_inside}
use Rattle.cf_model.specs.Steps.{ResizesObject, frames_left, number_of}
use Rattle.paged_heap.specs.Heap.{Heap}
use Rattle.paged_heap.specs.Layout.{IsValid, held_in, order_in, paging_at, state_of, owner_in}
use Rattle.region.specs.Overwriting.{Overwrites, words_with}
use Rattle.paged_heap.specs.ZeroTail.{Cuts}
use Rattle.paged_heap.proofs.ByKind.{frames_stay}
use Rattle.paged_heap.proofs.LayoutFacts.{paged_kind, paging_ok, owns}
use Rattle.paged_heap.proofs.Preserved.{Becomes, becomes_kept, becomes_state, held_is}
use Rattle.paged_heap.proofs.FreedObject.{asked_some}
use Rattle.paged_heap.proofs.ObjectWords.{before, few, past_new, past_old, was_byte, was_small, word_is, zero_byte}
use Rattle.paged_heap.proofs.WriteLemmas.{changes}
use Rattle.page_slots.proofs.CallerLemmas.{holds, slot_small, it_found, it_class, it_slot, it_inside}
use Rattle.page_slots.specs.Owner.{IsObjectAt}

-- the zeros up to the end of a word are in one word
pub zero_part : (n : ℕ) → n < 8 → words_with n (length (take (8 - n) (drop n (replicate {A = ℕ} 8 0)))) ≡ 1
zero_part n lt =
    let t = length-take (8 - n) (drop n (replicate {A = ℕ} 8 0)) in
    let d : length (drop n (replicate {A = ℕ} 8 0)) ≡ 8 - n = length-drop n (replicate {A = ℕ} 8 0) in
    omega arith

-- the first word is cut, and those after it are cleared
module _ (old mid new : List ℕ) (a n m : ℕ) (less : n < m) (inside : a + 1 + (m + 7) / 8 ≤ length old)
    (w : Overwrites old mid (record { from = a + 1 + n / 8; count = 1 }) (n % 8) (take (8 - n % 8) (drop (n % 8) (replicate 8 0))))
    (long : length new ≡ length mid) (clear : Clears mid new (record { from = a + 1 + n / 8 + 1; count = (m + 7) / 8 - n / 8 - 1 })) where
  zeros_long : length (take (8 - n % 8) (drop (n % 8) (replicate {A = ℕ} 8 0))) ≡ 8 - n % 8
  zeros_long =
      let t = length-take (8 - n % 8) (drop (n % 8) (replicate {A = ℕ} 8 0)) in
      let d : length (drop (n % 8) (replicate {A = ℕ} 8 0)) ≡ 8 - n % 8 = length-drop (n % 8) (replicate {A = ℕ} 8 0) in
      omega arith

  first : get_or new (a + 1 + n / 8) 0 ≡ get_or mid (a + 1 + n / 8) 0
  first = clear.others (a + 1 + n / 8) (inl (omega arith))

  byte : (j : ℕ) → j < 8 → byte_of j (get_or mid (a + 1 + n / 8) 0) ≡ byte_of (j % 8) (get_or mid (a + 1 + n / 8 + j / 8) 0)
  byte j lt =
      let r : j ≡ j % 8 = omega arith in
      let d : a + 1 + n / 8 ≡ a + 1 + n / 8 + j / 8 = omega arith in
      ap (λ i. byte_of i (get_or mid (a + 1 + n / 8) 0)) r ∙ ap (λ i. byte_of (j % 8) (get_or mid i 0)) d

  was : (j : ℕ) → j < 8 → byte_of (j % 8) (get_or old (a + 1 + n / 8 + j / 8) 0) ≡ byte_of j (get_or old (a + 1 + n / 8) 0)
  was j lt =
      let r : j % 8 ≡ j = omega arith in
      let d : a + 1 + n / 8 + j / 8 ≡ a + 1 + n / 8 = omega arith in
      ap (λ i. byte_of i (get_or old (a + 1 + n / 8 + j / 8) 0)) r ∙ ap (λ i. byte_of j (get_or old i 0)) d

  pub cut_is : Cuts old new a n m
  cut_is = record {
    long = long ∙ w.long;
    others = λ v out.
        let out' : IsOutside (a + 1 + n / 8 + 1) ((m + 7) / 8 - n / 8 - 1) v = elim out [ inl l ↦ inl (omega arith) | inr r ↦ inr (omega arith) ] in
        let out'' : IsOutside (a + 1 + n / 8) 1 v = elim out [ inl l ↦ inl l | inr r ↦ inr (omega arith) ] in
        clear.others v out' ∙ w.others v out'';
    small = (
        let s = w.small 0 (omega arith) in
        let z : a + 1 + n / 8 + 0 ≡ a + 1 + n / 8 = omega arith in
        let e = ap (λ i. get_or mid i 0) z in
        let f = first in
        omega arith);
    low = λ j lt.
        ap (byte_of j) first ∙ byte j (omega arith) ∙ w.value j (omega arith)
        ∙ overwritten_before (λ b. byte_of (b % 8) (get_or old (a + 1 + n / 8 + b / 8) 0)) (n % 8) (take (8 - n % 8) (drop (n % 8) (replicate 8 0))) j
        lt ∙ was j (omega arith);
    high = λ j le lt.
        let len = zeros_long in
        ap (byte_of j) first ∙ byte j lt ∙ w.value j (omega arith)
        ∙ overwritten_inside (λ b. byte_of (b % 8) (get_or old (a + 1 + n / 8 + b / 8) 0)) (n % 8) (take (8 - n % 8) (drop (n % 8) (replicate 8 0))) j
        le (omega arith)
        ∙ get_or-take (8 - n % 8) (drop (n % 8) (replicate {A = ℕ} 8 0)) (j - n % 8) 0 (omega arith)
        ∙ get_or-drop (n % 8) (replicate {A = ℕ} 8 0) (j - n % 8) 0 ∙ get_or-replicate {A = ℕ} 8 (n % 8 + (j - n % 8)) 0 0 (omega arith);
    zeros = λ i low high.
        let at : a + 1 + i ≡ a + 1 + n / 8 + 1 + (i - n / 8 - 1) = omega arith in
        ap (λ v. get_or new v 0) at ∙ clear.within (i - n / 8 - 1) (omega arith);
  }

-- The object gets another length in its slot: what is known of the words.
module _ (h t n : Heap) (k : IsValid h) (q a m c : ℕ) (o : IsObjectAt (owner_in h) q a m c) (size : ℕ) (same : class_for (paging_at h) size ≡ c)
    (et : t ≡ record h { words = t.words }) (cut : size < m → Cuts h.words t.words a size m) (kept : m ≤ size → t ≡ h)
    (en : n ≡ record t { words = set t.words a (header_word q size); asked = t.asked - m + size }) where
  abbrev old : List ℕ
  old = bytes_at h.words a

  abbrev new : List ℕ
  new = resized old size

  new_long : length new ≡ size
  new_long = length-resized old size

  are : AreBytes new
  are = resized_are_bytes old size (bytes_at-AreBytes h.words a)

  old_holds : need m ≤ slot_for (paging_at h) (length old)
  old_holds = (let l = o.long in let r = class_holds (paging_at h) (paging_ok h k) (length old) (k.sound.slots q _ (it_found (owns k) o)).class in omega arith)

  same_slot : slot_words (paging_at h) (class_for (paging_at h) size) ≡ slot_for (paging_at h) (length old)
  same_slot = ap (slot_words (paging_at h)) (same ∙ sym (it_class (owns k) o))

  new_holds : need size ≤ slot_for (paging_at h) (length old)
  new_holds =
      let r = class_holds (paging_at h) (paging_ok h k) size (subst (λ d. d < classes (paging_at h)) (sym same) o.in_range) in
      let e = same_slot in omega arith

  pub size_few : size ≤ 131072
  size_few = (let r = new_holds in let s = slot_small (owns k) q a o.known in omega arith)

  in_slot : a + slot_for (paging_at h) (length old) ≤ length h.words
  in_slot = (let i = it_inside (owns k) o in let e = it_slot (owns k) o in omega arith)

  -- each word after the header after the cut, as bytes and as a number of 64 bits
  cut_word : size < m → (i : ℕ) → suc i < slot_for (paging_at h) (length old)
      → ((j : ℕ) → j < 8 → byte_of j (get_or t.words (a + suc i) 0) ≡ get_or new (8 * i + j) 0) × (get_or t.words (a + suc i) 0 < 2 ^ 64)
  cut_word less i lt =
      let k' = cut less in
      elim (cases_lt i (size / 8)) [
        | inl low ↦ (
            let e : get_or t.words (a + suc i) 0 ≡ get_or h.words (a + suc i) 0 = k'.others (a + suc i) (inl (omega arith)) in
            ((λ j l. ap (byte_of j) e ∙ was_byte k o i j lt l ∙ before old size (8 * i + j) (omega arith)), (let s = was_small k o i lt in omega arith)))
        | inr high ↦ elim (cases_eq i (size / 8)) [
          | inl is ↦ (
              let at : a + suc i ≡ a + 1 + size / 8 = omega arith in
              let e = ap (λ w. get_or t.words w 0) at in
              let f = ap (λ w. get_or h.words w 0) at in (
                (λ j l. ap (byte_of j) e ∙ elim (cases_lt j (size % 8)) [
                  | inl first ↦ k'.low j first ∙ sym (ap (byte_of j) f) ∙ was_byte k o i j lt l ∙ before old size (8 * i + j) (omega arith)
                  | inr rest ↦ k'.high j rest l ∙ sym (past_new old size (8 * i + j) (omega arith))
                ]),
                (let s = k'.small in omega arith),
              ))
          | inr ne ↦ elim (cases_lt i ((m + 7) / 8)) [
            | inl inside ↦ (
                let at : a + 1 + i ≡ a + suc i = omega arith in
                let z = k'.zeros i (omega arith) inside in
                let e : get_or t.words (a + suc i) 0 ≡ 0 = ap (λ w. get_or t.words w 0) (sym at) ∙ z in
                ((λ j l. ap (byte_of j) e ∙ zero_byte j ∙ sym (past_new old size (8 * i + j) (omega arith))), omega arith))
            | inr behind ↦ (
                let e : get_or t.words (a + suc i) 0 ≡ get_or h.words (a + suc i) 0 = k'.others (a + suc i) (inr (omega arith)) in (
                  (λ j l. ap (byte_of j) e ∙ was_byte k o i j lt l ∙ past_old k o (8 * i + j) (omega arith)
                      ∙ sym (past_new old size (8 * i + j) (omega arith))),
                  (let s = was_small k o i lt in omega arith),
                ))
          ]
        ]
      ]

  any_word : (i : ℕ) → suc i < slot_for (paging_at h) (length old) → get_or t.words (a + suc i) 0 ≡ object_word q new (suc i)
  any_word i lt = by_bytes (elim (cases_lt size m) [
    | inl less ↦ cut_word less i lt
    | inr le ↦ (
        let e : get_or t.words (a + suc i) 0 ≡ get_or h.words (a + suc i) 0 = ap (λ (x : Heap). get_or x.words (a + suc i) 0) (kept le) in (
          (λ j l. ap (byte_of j) e ∙ was_byte k o i j lt l ∙ elim (cases_lt (8 * i + j) size) [
            | inl inside ↦ before old size (8 * i + j) inside
            | inr past ↦ past_old k o (8 * i + j) (omega arith) ∙ sym (past_new old size (8 * i + j) past)
          ]),
          (let s = was_small k o i lt in omega arith),
        ))
  ])
    where
      new_small : length new < 2 ^ 32
      new_small = (let l = new_long in let r = size_few in omega arith)

      by_bytes : ((j : ℕ) → j < 8 → byte_of j (get_or t.words (a + suc i) 0) ≡ get_or new (8 * i + j) 0) × (get_or t.words (a + suc i) 0 < 2 ^ 64)
          → get_or t.words (a + suc i) 0 ≡ object_word q new (suc i)
      by_bytes (each, small) = word_is q new i (get_or t.words (a + suc i) 0) (few k o) new_small are small each

  long_t : length t.words ≡ length h.words
  long_t = elim (cases_lt size m) [
    | inl less ↦ (cut less).long
    | inr le ↦ ap (λ (x : Heap). length x.words) (kept le)
  ]

  others_t : (w : ℕ) → IsOutside a (slot_for (paging_at h) (length old)) w → get_or t.words w 0 ≡ get_or h.words w 0
  others_t w out =
      let r = old_holds in
      elim (cases_lt size m) [
        | inl less ↦ (cut less).others w (elim out [ inl l ↦ inl (omega arith) | inr l ↦ inr (omega arith) ])
        | inr le ↦ ap (λ (x : Heap). get_or x.words w 0) (kept le)
      ]

  region_is : n.words ≡ set t.words a (header_word q size)
  region_is = ap (λ (x : Heap). x.words) en

  place_in_t : a < length t.words
  place_in_t = (let l = long_t in let i = in_slot in let r = old_holds in omega arith)

  rewrites : Rewrites h.words n.words (record { from = a; count = slot_for (paging_at h) (length old) }) (object_word q new)
  rewrites = record {
    within = λ i lt. in_word i lt;
    others = λ w out.
        let r = old_holds in
        let ne : w ≢ a = elim out [ inl l ↦ omega arith | inr l ↦ omega arith ] in
        ap (λ ws. get_or ws w 0) region_is ∙ get_or-set_other t.words a w (header_word q size) 0 ne ∙ others_t w out;
  }
    where
      in_word : (i : ℕ) → i < slot_for (paging_at h) (length old) → get_or n.words (a + i) 0 ≡ object_word q new i
      in_word zero lt =
          let at : a + 0 ≡ a = omega arith in
          ap (λ w. get_or n.words w 0) at ∙ ap (λ ws. get_or ws a 0) region_is ∙ get_or-set_same t.words a (header_word q size) 0 place_in_t
          ∙ ap (header_word q) (sym new_long)
      in_word (suc i) lt = ap (λ ws. get_or ws (a + suc i) 0) region_is ∙ get_or-set_other t.words a (a + suc i) (header_word q size) 0 (omega arith)
          ∙ any_word i lt

  class_new : class_for (paging_at h) (length new) ≡ class_for (paging_at h) (length old)
  class_new = ap (class_for (paging_at h)) new_long ∙ same ∙ sym (it_class (owns k) o)

  image : IsSlotImage (paging_at h) (insert (held_in h) q (record { place = a; bytes = new })) n.words
  image = image_after_write (paging_at h) (paging_ok h k) (held_in h) k.sound h.words k.image q (record { place = a; bytes = old }) (it_found (owns k) o)
      n.words new class_new rewrites

  asked_t : t.asked ≡ h.asked
  asked_t = ap (λ (x : Heap). x.asked) et

  becomes : Becomes h n (insert (held_in h) q (record { place = a; bytes = new }))
  becomes = changes h n k q a (it_found (owns k) o) new class_new are
      (en ∙ ap (λ (x : Heap). record x { words = set t.words a (header_word q size); asked = t.asked - m + size }) et
      ∙ ap (λ ws. record h { words = ws; asked = t.asked - m + size }) (sym region_is)
      ∙ ap (λ x. record h { words = n.words; asked = x }) (sym (ap (λ (x : Heap). x.asked) en)))
      (ap length region_is ∙ length-set t.words a (header_word q size) ∙ long_t)
      image
      (let e = ap (λ (x : Heap). x.asked) en in let f = asked_t in let s = asked_some k o in let l = o.long in let l' = new_long in omega arith)

  frames_still : n.frames ≡ frames_left h.kind (state_of h) (record { held = insert (held_in h) q (record { place = a; bytes = new }); moved = None })
  frames_still = ap (λ (x : Heap). x.frames) en ∙ ap (λ (x : Heap). x.frames) et
      ∙ sym (frames_stay h.kind (paged_kind h k) (state_of h) (insert (held_in h) q (record { place = a; bytes = new })))

  pub fits_kept : IsValid n
  fits_kept = becomes_kept h n k (insert (held_in h) q (record { place = a; bytes = new })) becomes

  pub fits_resized : (done : Resized) → done.old_slot_words ≡ get_or h.classes.sizes c 0 → done.slot_words ≡ get_or h.classes.sizes c 0
      → done.moved ≡ None → need size ≤ h.settings.page_words
      → ResizesObject (state_of h) (record { number = q; length = size }) done (state_of n)
  fits_resized done was_words words none fits = record {
    pages = paged_kind h k;
    fits = fits;
    object = record { place = a; bytes = old };
    found = it_found (owns k) o;
    old_slot = was_words ∙ it_slot (owns k) o;
    slot = words ∙ it_slot (owns k) o ∙ sym same_slot;
    step = inl (record {
      object = record { place = a; bytes = old };
      found = it_found (owns k) o;
      same = same ∙ sym (it_class (owns k) o);
      placed = held_is h n k (insert (held_in h) q (record { place = a; bytes = new })) becomes;
      still = ap number_of none;
    });
    left = ap objects (held_is h n k (insert (held_in h) q (record { place = a; bytes = new })) becomes)
        ∙ map_values-insert (λ (x : Placed). x.bytes) (held_in h) q (record { place = a; bytes = new });
    whole = becomes_state h n k (insert (held_in h) q (record { place = a; bytes = new })) becomes
        ∙ ap (λ fs. record (state_of h)
        { held = insert (held_in h) q (record { place = a; bytes = new }); words = n.words; frames = fs; order = (state_of n).order; cost = n.cost }) frames_still
        ∙ ap (λ v. record (state_of h) {
          held = insert (held_in h) q (record { place = a; bytes = new });
          words = n.words;
          frames = frames_left h.kind (state_of h) (record { held = insert (held_in h) q (record { place = a; bytes = new }); moved = v });
          order = (state_of n).order;
          cost =
              n.cost;
        }) (sym (ap number_of none))
        ∙ ap (λ m. record (state_of h) {
          held = m;
          words = n.words;
          frames = frames_left h.kind (state_of h) (record { held = m; moved = number_of done.moved });
          order = (state_of n).order;
          cost = n.cost;
        })
        (sym (held_is h n k (insert (held_in h) q (record { place = a; bytes = new })) becomes));
  }

  -- the resize leaves the order unchanged
  pub fits_chosen : (after : CallResult) → ResizeFollows (paging_at h) (held_in h) (record { number = q; length = size }) after (order_in h) (order_in n)
  fits_chosen after = record {
    object = record { place = a; bytes = old };
    found = it_found (owns k) o;
    stays = λ _. ap order_in en ∙ ap order_in et;
    changes = λ other. absurd (other (same ∙ sym (it_class (owns k) o)));
  }

-- an object's slot has at least the words of its bytes
module _ {h : Heap} (k : IsValid h) {q a m c : ℕ} (o : IsObjectAt (owner_in h) q a m c) where
  pub holds_bytes : 1 + (m + 7) / 8 ≤ get_or h.classes.sizes c 0
  holds_bytes = (let r = holds (owns k) q a o.known in let e = it_slot (owns k) o in let l = o.long in omega arith)

  pub bytes_in : a + 1 + (m + 7) / 8 ≤ length h.words
  bytes_in = (let i = it_inside (owns k) o in let r = holds_bytes in omega arith)

  pub bytes_low : a + 1 + (m + 7) / 8 ≤ 2 ^ 23
  bytes_low = (let i = bytes_in in let l = k.words_long in let s = h.settings.small_region in omega arith)
