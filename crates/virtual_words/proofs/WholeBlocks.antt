-- For the calls of whole blocks in `blocks.rt`: clearing, moving, reading and writing blocks of the region, as seen in virtual words.
use Rattle.std.proofs.Common.{◌≡◌, ◌≢◌, ℕ, ◌+◌, ◌-◌, ◌*◌, ◌/◌, ◌%◌, ◌<◌, ◌≤◌, inl, inr, List, length, get_or, take, drop, arith, sym, ◌∙◌, ap}
use Rattle.std.proofs.lemmas.Bool.{cases_lt}
use Rattle.std.proofs.lemmas.List.{get_or-take, get_or-drop}
use Rattle.block_table.specs.Table.{Table, IsBlockTable}
use Rattle.block_table.proofs.CallerLemmas.{frame_below, frames_differ}
use Rattle.page_model.specs.Image.{Clears, IsDisjoint, IsOutside, MovesWords}
use Rattle.region.specs.Words.{AreDistinct, AreOther, BlocksAreWithin, ClearsBlocks, MovesBlocks}
use Rattle.virtual_words.specs.Words.{table_word, virtual_words}
use Rattle.page_model.specs.Bytes.{byte_of}
use Rattle.region.specs.BlockBytes.{HasBytesOf, WritesBlocks}
use Rattle.region.specs.Cells.{byte_in}
use Rattle.region.specs.Overwriting.{Overwrites, byte_from}
use Rattle.region.proofs.CallerLemmas.{overwritten_inside}
use Rattle.virtual_words.proofs.Standing.{length-virtual, virtual_at, virtual_past}

-- `part` has the n entries of the table from v on
module _ (t : Table) (h : IsBlockTable t) (v n : ℕ) (fits : v + n ≤ length t.frames) (part : List ℕ) (is : part ≡ take n (drop v t.frames))
    (long : length part ≡ n) where
  pub entry_at : (k : ℕ) → k < n → get_or part k 0 ≡ get_or t.frames (v + k) 0
  entry_at k lt = ap (λ (xs : List ℕ). get_or xs k 0) is ∙ get_or-take n (drop v t.frames) k 0 lt ∙ get_or-drop v t.frames k 0

  pub entries_within : (words : ℕ) → words ≡ 4 * length t.frames → BlocksAreWithin part words
  entries_within words whole k lt =
      let e = entry_at k (omega arith) in
      let b = frame_below t h (v + k) (omega arith) in
      omega arith

  pub entries_distinct : AreDistinct part n
  entries_distinct k l lt lt' ne e =
      let a = entry_at k lt in let b = entry_at l lt' in
      frames_differ t h (v + k) (v + l) (omega arith) (omega arith) (λ f. ne (omega arith)) (omega arith)

  -- word i of the n virtual blocks is in the physical block that `part` lists for it
  pub word_place : (i : ℕ) → i < 4 * n → table_word t.frames (4 * v + i) ≡ 4 * get_or part (i / 4) 0 + i % 4
  word_place i lt =
      let e = entry_at (i / 4) (omega arith) in
      let block : get_or t.frames ((4 * v + i) / 4) 0 ≡ get_or t.frames (v + i / 4) 0 =
      ap (λ (b : ℕ). get_or t.frames b 0) (let f : (4 * v + i) / 4 ≡ v + i / 4 = omega arith in f) in
      omega arith

  -- a word outside of the n virtual blocks is in none of the physical blocks of `part`
  pub word_outside : (w : ℕ) → w < 4 * length t.frames → IsOutside (4 * v) (4 * n) w → (k : ℕ) → k < n → table_word t.frames w / 4 ≢ get_or part k 0
  word_outside w lt out k less e =
      let a = entry_at k less in
      frames_differ t h (w / 4) (v + k) (omega arith) (omega arith)
      (elim out [ inl l ↦ (λ f. absurd (omega arith)) | inr g ↦ (λ f. absurd (omega arith)) ]) (omega arith)

  pub blocks_cleared : (old new : List ℕ) → ClearsBlocks old new part n
      → Clears (virtual_words t.frames old) (virtual_words t.frames new) (record { from = 4 * v; count = 4 * n })
  blocks_cleared old new c = record {
    within = λ i lt. virtual_at t.frames new (4 * v + i) (omega arith) ∙ ap (λ (p : ℕ). get_or new p 0) (word_place i lt)
        ∙ c.zeros (i / 4) (i % 4) (omega arith) (omega arith);
    others = λ w out. elim (cases_lt w (4 * length t.frames)) [
      | inl lt ↦ virtual_at t.frames new w lt ∙ c.others (table_word t.frames w) (word_outside w lt out) ∙ sym (virtual_at t.frames old w lt)
      | inr past ↦ virtual_past t.frames new w past ∙ sym (virtual_past t.frames old w past)
    ];
  }

  -- byte j of the n virtual blocks is in the physical block that `part` lists for it
  pub byte_place : (region : List ℕ) (j : ℕ) → j < 32 * n
      → byte_from (virtual_words t.frames region) (4 * v) j ≡ byte_in region (32 * get_or part (j / 32) 0 + j % 32)
  byte_place region j lt =
      let place = word_place (j / 8) (omega arith) in
      let block : get_or part (j / 8 / 4) 0 ≡ get_or part (j / 32) 0 = ap (λ (k : ℕ). get_or part k 0) (let e : j / 8 / 4 ≡ j / 32 = omega arith in e) in
      let word : table_word t.frames (4 * v + j / 8) ≡ (32 * get_or part (j / 32) 0 + j % 32) / 8 = omega arith in
      let rest : j % 8 ≡ (32 * get_or part (j / 32) 0 + j % 32) % 8 = omega arith in
      ap (byte_of (j % 8)) (virtual_at t.frames region (4 * v + j / 8) (omega arith) ∙ ap (λ (p : ℕ). get_or region p 0) word)
      ∙ ap (λ (i : ℕ). byte_of i (get_or region ((32 * get_or part (j / 32) 0 + j % 32) / 8) 0)) rest

  pub blocks_read : (region out : List ℕ) → HasBytesOf out region part n
      → (j : ℕ) → j < 32 * n → get_or out j 0 ≡ byte_from (virtual_words t.frames region) (4 * v) j
  blocks_read region out has j lt =
      ap (λ (i : ℕ). get_or out i 0) (let e : j ≡ 32 * (j / 32) + j % 32 = omega arith in e) ∙ has (j / 32) (j % 32) (omega arith) (omega arith)
      ∙ sym (byte_place region j lt)

  pub blocks_written : (old new bytes : List ℕ) → length bytes ≡ 32 * n → WritesBlocks old new part bytes n
      → Overwrites (virtual_words t.frames old) (virtual_words t.frames new) (record { from = 4 * v; count = 4 * n }) 0 bytes
  blocks_written old new bytes all c = record {
    long = length-virtual t.frames new ∙ sym (length-virtual t.frames old);
    others = λ w out. elim (cases_lt w (4 * length t.frames)) [
      | inl lt ↦ virtual_at t.frames new w lt ∙ c.others (table_word t.frames w) (word_outside w lt out) ∙ sym (virtual_at t.frames old w lt)
      | inr past ↦ virtual_past t.frames new w past ∙ sym (virtual_past t.frames old w past)
    ];
    small = λ i lt.
        let e = virtual_at t.frames new (4 * v + i) (omega arith) ∙ ap (λ (p : ℕ). get_or new p 0) (word_place i lt) in
        let s = c.small (i / 4) (i % 4) (omega arith) (omega arith) in
        omega arith;
    value = λ j lt.
        byte_place new j (omega arith) ∙ sym (c.arrived (j / 32) (j % 32) (omega arith) (omega arith))
        ∙ ap (λ (i : ℕ). get_or bytes i 0) (let e : 32 * (j / 32) + j % 32 ≡ j - 0 = omega arith in e)
        ∙ sym (overwritten_inside (byte_from (virtual_words t.frames old) (4 * v)) 0 bytes j (omega arith) (omega arith));
  }

-- `sources` has the n entries of the table from v on, `targets` the n from w on
module _ (t : Table) (h : IsBlockTable t) (v w n : ℕ) (fits_v : v + n ≤ length t.frames) (fits_w : w + n ≤ length t.frames)
    (sources targets : List ℕ) (are : sources ≡ take n (drop v t.frames)) (as_long : length sources ≡ n)
    (go : targets ≡ take n (drop w t.frames)) (go_long : length targets ≡ n) where
  pub entries_other : IsDisjoint v n w n → AreOther sources targets n
  entries_other apart k l lt lt' e =
      let a = entry_at t h v n fits_v sources are as_long k lt in let b = entry_at t h w n fits_w targets go go_long l lt' in
      frames_differ t h (v + k) (w + l) (omega arith) (omega arith)
      (elim apart [ inl p ↦ (λ f. absurd (omega arith)) | inr q ↦ (λ f. absurd (omega arith)) ]) (omega arith)

  pub blocks_moved : (old new : List ℕ) → MovesBlocks old new sources targets n
      → MovesWords (virtual_words t.frames old) (virtual_words t.frames new) (record { from = 4 * v; count = 4 * n }) (4 * w)
  blocks_moved old new m =
      let source = word_place t h v n fits_v sources are as_long in
      let target = word_place t h w n fits_w targets go go_long in
      record {
        arrived = λ i lt. virtual_at t.frames new (4 * w + i) (omega arith) ∙ ap (λ (p : ℕ). get_or new p 0) (target i lt)
            ∙ m.arrived (i / 4) (i % 4) (omega arith) (omega arith)
            ∙ sym (virtual_at t.frames old (4 * v + i) (omega arith) ∙ ap (λ (p : ℕ). get_or old p 0) (source i lt));
        left_zeros = λ i lt. virtual_at t.frames new (4 * v + i) (omega arith) ∙ ap (λ (p : ℕ). get_or new p 0) (source i lt)
            ∙ m.left_zeros (i / 4) (i % 4) (omega arith) (omega arith);
        others = λ x far out. elim (cases_lt x (4 * length t.frames)) [
          | inl lt ↦ virtual_at t.frames new x lt
              ∙ m.others (table_word t.frames x) (word_outside t h v n fits_v sources are as_long x lt far)
              (word_outside t h w n fits_w targets go go_long x lt out) ∙ sym (virtual_at t.frames old x lt)
          | inr past ↦ virtual_past t.frames new x past ∙ sym (virtual_past t.frames old x past)
        ];
      }
