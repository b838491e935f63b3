-- The page and the number of a slot determine its address, and each slot's address determines them (law `slots_have_addresses`).
use Rattle.std.proofs.Common.{◌≡◌, ℕ, ◌+◌, ◌*◌, ◌/◌, ◌%◌, ◌<◌, ◌≤◌, arith, ap}
use Rattle.std.proofs.lemmas.Nat.{div-add-mod', mul-le}
use Rattle.std.proofs.Math.Nat.{mul-mod_left}
use Rattle.page_model.specs.Paging.{Paging, IsPaging, classes, slot_words, slots_of, page_of, address_of}
use Rattle.page_model.specs.Arrangement.{IsSlotAt}
use Rattle.page_model.proofs.PageLaws.{between_multiples}
use Rattle.page_model.proofs.Totals.{slot_below}

divided : (P page r : ℕ) → r < P → ((page * P + r) / P ≡ page) × ((page * P + r) % P ≡ r)
divided P page r lt =
    let q : (page * P + r) / P ≡ page = between_multiples (page * P + r) page P (omega arith) (omega arith) (omega arith) in
    let e : (page * P + r) / P * P + (page * P + r) % P ≡ page * P + r = div-add-mod' (page * P + r) P in
    let f : (page * P + r) / P * P ≡ page * P = ap (λ x. x * P) q in
    (q, omega arith)

slot_ends : (P size slot : ℕ) → slot < P / size → slot * size + size ≤ P
slot_ends P size slot lt =
    let e = div-add-mod' P size in
    let f : (slot + 1) * size ≤ P / size * size = mul-le (slot + 1) size (P / size) size (omega arith) (omega arith) in
    omega arith

module _ (p : Paging) (ok : IsPaging p) (c : ℕ) (lt : c < classes p) where
  -- the address of each page and slot number is that of a slot on that page
  pub address_is_slot : (page slot : ℕ) → page < p.pages → slot < slots_of p c
      → IsSlotAt p c (address_of p c page slot) × (page_of p (address_of p c page slot) ≡ page)
      × (address_of p c page slot % p.page_words / slot_words p c ≡ slot)
  address_is_slot page slot page_in slot_in =
      let size : 4 ≤ slot_words p c = ok.sized.least c lt in
      let ends = slot_ends p.page_words (slot_words p c) slot slot_in in
      let d = divided p.page_words page (slot * slot_words p c) (omega arith) in
      let by_page = d.0 in let rest = d.1 in
      let number = between_multiples (slot * slot_words p c) slot (slot_words p c) (omega arith) (omega arith) (omega arith) in
      let aligned = mul-mod_left slot (slot_words p c) in
      (record { class = lt; page = rw by_page page_in; aligned = rw rest aligned; fits = rw rest ends }, by_page, rw rest number)

  -- the address of each slot is the one of its page number and its slot number (`address_of`)
  pub slot_is_address : (a : ℕ) → IsSlotAt p c a → (a ≡ address_of p c (page_of p a) (a % p.page_words / slot_words p c))
      × (a % p.page_words / slot_words p c < slots_of p c)
  slot_is_address a s =
      let size : 4 ≤ slot_words p c = ok.sized.least c lt in
      let e = div-add-mod' a p.page_words in
      let f = div-add-mod' (a % p.page_words) (slot_words p c) in
      let z = s.aligned in
      (omega arith, slot_below p.page_words (slot_words p c) a (omega arith) s.aligned s.fits)
