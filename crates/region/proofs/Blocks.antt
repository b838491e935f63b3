-- For `clear_blocks`, `move_blocks` and `write_blocks`: blocks of four words are cleared, moved or written, one after the other.
use Rattle.std.proofs.Common.{◌≡◌, ◌≢◌, ℕ, ◌+◌, ◌-◌, ◌*◌, ◌/◌, ◌%◌, ◌^◌, ◌<◌, ◌≤◌, ◌⊎◌, inl, inr, List, length, slice_index, arith, ap, sym, ◌∙◌}
use borrow.Rule.Slice.PartMut.{put_mid}
use Rattle.std.proofs.lemmas.Bool.{cases_eq, cases_lt}
use Rattle.page_model.specs.Bytes.{byte_of}
use Rattle.region.specs.Cells.{byte_in}
use Rattle.region.specs.BlockBytes.{WritesBlocks}
use Rattle.region.specs.Words.{AreDistinct, AreOther, ClearsBlocks, MovesBlocks, cleared, moved}
use Rattle.region.proofs.Pieces.{put_inside, put_outside}
use Rattle.region.proofs.WordsAfter.{cleared_others, cleared_within, moved_arrived, moved_left, moved_others}

-- clearing or moving none of the blocks changes nothing
pub clears_none : (u blocks : List ℕ) → ClearsBlocks u u blocks 0
clears_none u blocks = record { zeros = λ k j lt. absurd (omega arith); others = λ w out. refl_of (slice_index u w) }
  where
    refl_of : (x : ℕ) → x ≡ x
    refl_of x = omega arith

pub moves_none : (u sources targets : List ℕ) → MovesBlocks u u sources targets 0
moves_none u sources targets = record {
  arrived = λ k j lt. absurd (omega arith);
  left_zeros = λ k j lt. absurd (omega arith);
  others = λ w far out. refl_of (slice_index u w);
}
  where
    refl_of : (x : ℕ) → x ≡ x
    refl_of x = omega arith

-- a word of another block than b is before block b or after it
apart_from : (b w : ℕ) → w / 4 ≢ b → (w < 4 * b) ⊎ (4 * b + 4 ≤ w)
apart_from b w ne = elim (cases_lt w (4 * b)) [
  | inl l ↦ inl l
  | inr g ↦ elim (cases_lt w (4 * b + 4)) [ inl l ↦ absurd (ne (omega arith)) | inr h ↦ inr h ]
]

-- the first n blocks are cleared; then the next one is cleared too
module _ (u v blocks : List ℕ) (n : ℕ) (within : 4 * slice_index blocks n + 4 ≤ length v) (so_far : ClearsBlocks u v blocks n) where
  abbrev b : ℕ
  b = slice_index blocks n

  now_zero : (j : ℕ) → j < 4 → slice_index (cleared v (4 * b) 4) (4 * b + j) ≡ 0
  now_zero = cleared_within v (4 * b) 4 within

  zero_at : (k j : ℕ) → k < n + 1 → j < 4 → slice_index (cleared v (4 * b) 4) (4 * slice_index blocks k + j) ≡ 0
  zero_at k j lt l = elim (cases_eq (slice_index blocks k) b) [
    | inl is ↦ ap (λ (i : ℕ). slice_index (cleared v (4 * b) 4) (4 * i + j)) is ∙ now_zero j l
    | inr ne ↦ elim (cases_lt k n) [
      | inl low ↦ cleared_others v (4 * b) 4 within (4 * slice_index blocks k + j) (apart_from b (4 * slice_index blocks k + j) (λ e. ne (omega arith)))
          ∙ so_far.zeros k j low l
      | inr high ↦ absurd (ne (ap (slice_index blocks) (let e : k ≡ n = omega arith in e)))
    ]
  ]

  pub clears_next : ClearsBlocks u (cleared v (4 * b) 4) blocks (n + 1)
  clears_next = record {
    zeros = zero_at;
    others = λ w out. cleared_others v (4 * b) 4 within w (apart_from b w (out n (omega arith))) ∙ so_far.others w (λ k lt. out k (omega arith));
  }

-- the first n blocks are moved; then the next one is moved too
module _ (u v sources targets : List ℕ) (n m : ℕ) (less : n < m) (source : 4 * slice_index sources n + 4 ≤ length v)
    (target : 4 * slice_index targets n + 4 ≤ length v) (sources_differ : AreDistinct sources m) (targets_differ : AreDistinct targets m)
    (apart : AreOther sources targets m) (so_far : MovesBlocks u v sources targets n) where
  abbrev src : ℕ
  src = slice_index sources n

  abbrev dst : ℕ
  dst = slice_index targets n

  abbrev w : List ℕ
  w = moved v (4 * src) (4 * dst) 4

  two_apart : (4 * src + 4 ≤ 4 * dst) ⊎ (4 * dst + 4 ≤ 4 * src)
  two_apart = (let ne = apart n n less less in elim (cases_lt src dst) [ inl l ↦ inl (omega arith) | inr g ↦ inr (omega arith) ])

  stays : (i : ℕ) → i / 4 ≢ src → i / 4 ≢ dst → slice_index w i ≡ slice_index v i
  stays i no_a no_b = moved_others v (4 * src) (4 * dst) 4 source target i (apart_from src i no_a) (apart_from dst i no_b)

  block_of : (x j : ℕ) → j < 4 → (4 * x + j) / 4 ≡ x
  block_of x j lt = omega arith

  -- a block that is neither source nor target stays
  kept : (x j : ℕ) → j < 4 → x ≢ src → x ≢ dst → slice_index w (4 * x + j) ≡ slice_index v (4 * x + j)
  kept x j lt no_a no_b = (let e = block_of x j lt in stays (4 * x + j) (λ f. no_a (omega arith)) (λ f. no_b (omega arith)))

  arrived : (k j : ℕ) → k < n + 1 → j < 4 → slice_index w (4 * slice_index targets k + j) ≡ slice_index u (4 * slice_index sources k + j)
  arrived k j lt l = elim (cases_lt k n) [
    | inl low ↦ kept (slice_index targets k) j l (λ e. apart n k less (omega arith) (omega arith)) (targets_differ k n (omega arith) less (λ e. omega arith))
        ∙ so_far.arrived k j low l
    | inr high ↦ (
        let is : k ≡ n = omega arith in
        ap (λ (i : ℕ). slice_index w (4 * slice_index targets i + j)) is ∙ moved_arrived v (4 * src) (4 * dst) 4 source target two_apart j l
        ∙ so_far.others (4 * src + j) (λ i lt'. (let e = block_of src j l in λ f. sources_differ n i less (omega arith) (λ g. omega arith) (omega arith)))
        (λ i lt'. (let e = block_of src j l in λ f. apart n i less (omega arith) (omega arith)))
        ∙ ap (λ (i : ℕ). slice_index u (4 * slice_index sources i + j)) (sym_of is))
  ]
    where
      sym_of : {x y : ℕ} → x ≡ y → y ≡ x
      sym_of {x} {y} e = omega arith

  left : (k j : ℕ) → k < n + 1 → j < 4 → slice_index w (4 * slice_index sources k + j) ≡ 0
  left k j lt l = elim (cases_lt k n) [
    | inl low ↦ kept (slice_index sources k) j l (sources_differ k n (omega arith) less (λ e. omega arith)) (apart k n (omega arith) less)
        ∙ so_far.left_zeros k j low l
    | inr high ↦ ap (λ (i : ℕ). slice_index w (4 * slice_index sources i + j)) (let is : k ≡ n = omega arith in is)
        ∙ moved_left v (4 * src) (4 * dst) 4 source target j l
  ]

  pub moves_next : MovesBlocks u w sources targets (n + 1)
  moves_next = record {
    arrived = arrived;
    left_zeros = left;
    others = λ i far out. stays i (far n (omega arith)) (out n (omega arith)) ∙ so_far.others i (λ k lt. far k (omega arith)) (λ k lt. out k (omega arith));
  }

-- the first n blocks are written; then `new` replaces the four words of the next one
module _ (u v new blocks bytes : List ℕ) (n m : ℕ) (is_m : m ≡ 4) (less : n < length blocks) (long : length new ≡ m)
    (within : 4 * slice_index blocks n + 4 ≤ length v) (differ : AreDistinct blocks (length blocks))
    (each : (j : ℕ) → j < 32 → byte_in new j ≡ slice_index bytes (32 * n + j)) (so_far : WritesBlocks u v blocks bytes n) where
  abbrev next : ℕ
  next = slice_index blocks n

  abbrev put : List ℕ
  put = put_mid (4 * next) m v new

  leaves : (w : ℕ) → w / 4 ≢ next → slice_index put w ≡ slice_index v w
  leaves w ne = put_outside v new (4 * next) m long (omega arith) w (elim (apart_from next w ne) [ inl l ↦ inl l | inr g ↦ inr (omega arith) ])

  pub writes_next : ((i : ℕ) → slice_index put i < 2 ^ 64) → WritesBlocks u put blocks bytes (n + 1)
  writes_next fits = record {
    arrived = λ k j lt l. elim (cases_lt k n) [
      | inl low ↦ (
          let ne = differ k n (omega arith) less (λ e. omega arith) in
          let cell : (32 * slice_index blocks k + j) / 8 / 4 ≡ slice_index blocks k = omega arith in
          so_far.arrived k j low l
          ∙ sym (ap (byte_of ((32 * slice_index blocks k + j) % 8)) (leaves ((32 * slice_index blocks k + j) / 8) (λ e. ne (omega arith)))))
      | inr high ↦ (
          let is : k ≡ n = omega arith in
          let word : (32 * next + j) / 8 - 4 * next ≡ j / 8 = omega arith in
          let rest : (32 * next + j) % 8 ≡ j % 8 = omega arith in
          ap (λ (i : ℕ). slice_index bytes (32 * i + j)) is ∙ sym (each j l)
          ∙ sym (ap (byte_of ((32 * next + j) % 8)) (put_inside v new (4 * next) m long (omega arith) ((32 * next + j) / 8) (omega arith) (omega arith))
          ∙ ap (λ (i : ℕ). byte_of ((32 * next + j) % 8) (slice_index new i)) word ∙ ap (λ (i : ℕ). byte_of i (slice_index new (j / 8))) rest)
          ∙ ap (λ (i : ℕ). byte_in put (32 * slice_index blocks i + j)) (sym is))
    ];
    small = λ k j lt l. fits (4 * slice_index blocks k + j);
    others = λ w out. leaves w (out n (omega arith)) ∙ so_far.others w (λ k lt. out k (omega arith));
  }
