-- What holds of a live object: its number has 32 bits, its bytes are at most 131,072, its class is one of the heap's, its slot is long enough and in the
-- region, and its header holds its number and its length.
use Rattle.std.proofs.Common.{◌≡◌, ℕ, ◌+◌, ◌*◌, ◌/◌, ◌%◌, ◌^◌, ◌<◌, ◌≤◌, length, get_or, Some, arith, ◌∙◌, ap}
use Rattle.std.specs.FinMap.{get}
use Rattle.cf_base.specs.Classes.{need}
use Rattle.page_model.specs.Arrangement.{class_at}
use Rattle.page_model.specs.Held.{Placed}
use Rattle.page_model.specs.Image.{slot_for}
use Rattle.page_model.specs.Paging.{classes}
use Rattle.page_model.proofs.CallerLemmas.{class_holds, slot_fits}
use Rattle.slice_model.specs.Words.{word_at}
use Rattle.slice_model.proofs.CallerLemmas.{object_slot, object_within}
use Rattle.sliced_heap.specs.Heap.{Heap}
use Rattle.sliced_heap.specs.Layout.{IsValid, plan_of, sliced_paging, sliced_state_of}
use Rattle.sliced_heap.proofs.Facts.{paging_ok, plan_ok}

module _ (h : Heap) (k : IsValid h) (q : ℕ) (x : Placed) (there : get (sliced_state_of h).held q ≡ Some x) where
  pub number_low : q < 2 ^ 32
  number_low = (let lt = k.kept.numbers q x there in let few = h.settings.few_proxies in omega arith)

  pub in_class : class_at (sliced_paging h) x < classes (sliced_paging h)
  in_class = (object_slot (plan_of h) (plan_ok h k) (sliced_state_of h).held h.job k.kept q x there).class

  pub holds : need (length x.bytes) ≤ slot_for (sliced_paging h) (length x.bytes)
  holds = class_holds (sliced_paging h) (paging_ok h k) (length x.bytes) in_class

  -- the object's slot is in the region
  pub inside : x.place + slot_for (sliced_paging h) (length x.bytes) ≤ length h.words
  inside = (let l = object_within (plan_of h) (plan_ok h k) (sliced_state_of h).held h.job k.kept q x there in let long = k.words_long in omega arith)

  pub bytes_few : length x.bytes ≤ 131072
  bytes_few =
      let o = holds in
      let fits = slot_fits (sliced_paging h) (paging_ok h k) (class_at (sliced_paging h) x) in_class in
      let small = k.serve.part.tables.table.small in
      omega arith

  pub head : get_or h.words (word_at h.job q x 0) 0 ≡ q + 2 ^ 32 * length x.bytes
  head = (let o = holds in k.words.held q x there 0 (omega arith))

  pub head_number : (w : ℕ) → w ≡ word_at h.job q x 0 → get_or h.words w 0 % 2 ^ 32 ≡ q
  head_number w is = (let low = number_low in let e = head in let f : get_or h.words w 0 ≡ q + 2 ^ 32 * length x.bytes = ap (λ a. get_or h.words a 0) is
      ∙ e in omega arith)

  pub head_length : (w : ℕ) → w ≡ word_at h.job q x 0 → get_or h.words w 0 / 2 ^ 32 ≡ length x.bytes
  head_length w is = (let low = number_low in let e = head in let f : get_or h.words w 0 ≡ q + 2 ^ 32 * length x.bytes = ap (λ a. get_or h.words a 0) is
      ∙ e in omega arith)
