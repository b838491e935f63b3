-- For a resize: the words of an object's slot, byte by byte, with its old length and with the new one. The object's number is below 2^32.
use Rattle.std.proofs.Common.{◌≡◌, ℕ, zero, suc, ◌+◌, ◌*◌, ◌/◌, ◌%◌, ◌^◌, ◌<◌, ◌≤◌, List, length, get_or, arith, refl, sym, ◌∙◌, ap, inl, inr}
use Rattle.std.proofs.lemmas.Bool.{cases_lt}
use Rattle.std.proofs.lemmas.List.{get_or_past}
use Rattle.page_model.specs.Bytes.{AreBytes, byte_of, bytes_at}
use Rattle.page_model.specs.Image.{object_word, slot_for}
use Rattle.page_model.specs.Steps.{resized}
use Rattle.page_model.proofs.CallerLemmas.{bytes_at-AreBytes, length-resized, byte_of_object, object_word_small, resized_before, resized_behind}
use Rattle.page_model.proofs.CallerLemmas.{word_by_bytes}
use Rattle.paged_heap.specs.Heap.{Heap}
use Rattle.paged_heap.specs.Layout.{IsValid, paging_at, owner_in}
use Rattle.paged_heap.proofs.Preserved.{stored}
use Rattle.page_slots.proofs.CallerLemmas.{bytes_few, it, it_found}
use Rattle.page_slots.specs.Owner.{IsObjectAt}
use Rattle.paged_heap.proofs.LayoutFacts.{owns}

-- byte j of word i after the header
pub word_byte : (q : ℕ) (v : List ℕ) (i j : ℕ) → j < 8 → AreBytes v → byte_of j (object_word q v (suc i)) ≡ get_or v (8 * i + j) 0
word_byte q v i j lt all =
    let r : (8 * i + j) % 8 ≡ j = omega arith in
    let d : (8 * i + j) / 8 ≡ i = omega arith in
    sym (ap (λ b. byte_of b (object_word q v (suc ((8 * i + j) / 8)))) r ∙ ap (λ e. byte_of j (object_word q v (suc e))) d) ∙ byte_of_object q v (8 * i + j) all

-- a word of 64 bits that has the bytes of word i after the header is that word
pub word_is : (q : ℕ) (v : List ℕ) (i w : ℕ) → q < 2 ^ 32 → length v < 2 ^ 32 → AreBytes v → w < 2 ^ 64
    → ((j : ℕ) → j < 8 → byte_of j w ≡ get_or v (8 * i + j) 0) → w ≡ object_word q v (suc i)
word_is q v i w few short all small each =
    word_by_bytes w (object_word q v (suc i)) small (object_word_small q v (suc i) few short all) (λ j l. each j l ∙ sym (word_byte q v i j l all))

pub zero_byte : (j : ℕ) → byte_of j 0 ≡ 0
zero_byte zero = refl
zero_byte (suc j) = zero_byte j

-- the bytes v, cut or extended by zeros to `size` bytes
module _ (v : List ℕ) (size : ℕ) where
  pub past_new : (b : ℕ) → size ≤ b → get_or (resized v size) b 0 ≡ 0
  past_new b le = get_or_past (resized v size) b 0 (let l = length-resized v size in omega arith)

  pub before : (b : ℕ) → b < size → get_or v b 0 ≡ get_or (resized v size) b 0
  before b lt = elim (cases_lt b (length v)) [
    | inl inside ↦ sym (resized_before v size b lt inside)
    | inr past ↦ get_or_past v b 0 past ∙ sym (resized_behind v size b past)
  ]

module _ {h : Heap} (k : IsValid h) {q a m c : ℕ} (o : IsObjectAt (owner_in h) q a m c) where
  abbrev old : List ℕ
  old = bytes_at h.words a

  pub few : q < 2 ^ 32
  few = (stored h k q _ (it_found (owns k) o)).0

  old_small : length old < 2 ^ 32
  old_small = (let f = bytes_few (owns k) q a o.known in omega arith)

  pub stood : (i : ℕ) → suc i < slot_for (paging_at h) (length old) → get_or h.words (a + suc i) 0 ≡ object_word q old (suc i)
  stood i lt = k.image.held q (it (owns k) o) (it_found (owns k) o) (suc i) lt

  pub was_small : (i : ℕ) → suc i < slot_for (paging_at h) (length old) → get_or h.words (a + suc i) 0 < 2 ^ 64
  was_small i lt = (let e = stood i lt in let s = object_word_small q old (suc i) few old_small (bytes_at-AreBytes h.words a) in omega arith)

  pub was_byte : (i j : ℕ) → suc i < slot_for (paging_at h) (length old) → j < 8 → byte_of j (get_or h.words (a + suc i) 0) ≡ get_or old (8 * i + j) 0
  was_byte i j lt less = ap (byte_of j) (stood i lt) ∙ word_byte q old i j less (bytes_at-AreBytes h.words a)

  pub past_old : (b : ℕ) → m ≤ b → get_or old b 0 ≡ 0
  past_old b le = get_or_past old b 0 (let l = o.long in omega arith)
