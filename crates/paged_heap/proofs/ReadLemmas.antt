-- For `find`, `place`, `read` and `write`: a live number's proxy has its object's address; which bytes pass the object's end; the bytes that are read are the
-- object's.
use Rattle.std.proofs.Common.{◌≡◌, ℕ, ◌+◌, ◌/◌, ◌%◌, ◌^◌, ◌<◌, ◌≤◌, List, length, get_or, Some, arith, sym, ◌∙◌, ap}
use Rattle.std.specs.FinMap.{get}
use Rattle.cf_base.proofs.MapValues.{get-map_values}
use Rattle.page_model.specs.Held.{Placed}
use Rattle.page_model.specs.Bytes.{bytes_at}
use Rattle.page_model.proofs.CallerLemmas.{places-held_at}
use Rattle.region.specs.Overwriting.{byte_from}
use Rattle.cf_model.specs.Answers.{place_of}
use Rattle.cf_model.specs.Steps.{PassesEnd, ReadsBytes}
use Rattle.paged_heap.specs.Heap.{Heap}
use Rattle.paged_heap.specs.Layout.{IsValid, held_in, state_of, owner_in}
use Rattle.paged_heap.proofs.LayoutFacts.{owns}
use Rattle.page_slots.proofs.CallerLemmas.{held, words_in, bytes_read}
use Rattle.page_slots.specs.Owner.{HoldsBytesAt, placed_at}

-- the address of a handle is that of its proxy
pub place_shown : (h : Heap) (q : ℕ) → get h.proxies.places q ≡ place_of (state_of h) q
place_shown h q = ap (λ m. get m q) (sym (places-held_at h.words h.proxies.places)) ∙ get-map_values (λ (x : Placed). x.place) (held_in h) q

-- `count` bytes from byte `at` on pass the end of the object
pub passes : (h : Heap) → IsValid h → (q a : ℕ) → get h.proxies.places q ≡ Some a → (at count : ℕ) → length (bytes_at h.words a) < at + count
    → PassesEnd (state_of h) (record { number = q; from = at }) count
passes h k q a some at count more = record { object = placed_at (owner_in h) a; found = held (owns k) q a some; past = more }

-- they are in it
module _ (h : Heap) (k : IsValid h) (q at count a : ℕ) (l : HoldsBytesAt (owner_in h) q at count a) where
  pub place_small : 1 ≤ count → a + 1 + at / 8 ≤ 2 ^ 23
  place_small some =
      let w = words_in (owns k) q at count a l some in let long = k.words_long in let small = h.settings.small_region in
      omega arith

  pub read_is : (out : List ℕ) → length out ≡ count
      → ((j : ℕ) → j < length out → get_or out j 0 ≡ byte_from h.words (a + 1 + at / 8) (at % 8 + j))
      → ReadsBytes (state_of h) (record { number = q; from = at }) count out
  read_is out long each = record {
    object = placed_at (owner_in h) a;
    found = held (owns k) q a l.found;
    within = l.within;
    value = bytes_read (owns k) q at count a l out long each;
  }
