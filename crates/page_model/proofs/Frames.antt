-- For the laws of `blocks.rt`: the first block table is a permutation; slots are whole blocks of the table, no two objects share one, and each word of a slot
-- is in the physical block of its virtual one. A free, or the freeing half of a resize, keeps the other objects' physical blocks, and the block table a
-- permutation of the same length.
use Rattle.std.proofs.Common.{◌≡◌, ◌≢◌, ℕ, ◌+◌, ◌*◌, ◌/◌, ◌%◌, ◌<◌, ◌≤◌, List, Option, Some, None, length, get_or, arith, sym, ◌∙◌, subst, inl, inr, ap, refl}
use Rattle.std.specs.Prelude.{◌⊎◌}
use Rattle.std.proofs.Math.Nat.{mul-mod_left}
use Rattle.std.proofs.lemmas.Bool.{cases_eq}
use Rattle.std.proofs.lemmas.Nat.{div-add-mod'}
use Rattle.std.specs.FinMap.{get, remove}
use Rattle.cf_base.proofs.Maps.{get_inserted, get_insert_other, get_remove_other}
use Rattle.cf_base.specs.Exchanges.{exchanged}
use Rattle.cf_base.proofs.Exchanges.{partner_second, partner_else, length-exchanged, get_or-exchanged}
use Rattle.cf_base.proofs.Permutations.{entry_once, exchanged_permuted, range_permuted}
use Rattle.page_model.specs.Held.{Held, Placed}
use Rattle.page_model.specs.Paging.{Paging, IsPaging, slot_words, class_for}
use Rattle.page_model.specs.Arrangement.{class_at, IsSound}
use Rattle.page_model.specs.Steps.{CallResult, MustMove, MayFill, Moves, without}
use Rattle.page_model.specs.Image.{object_word, slot_for, IsDisjoint, IsSlotImage}
use Rattle.page_model.specs.Frames.{first_frames, IsPermuted, frames_after, block_of, IsPhysical, AreBlocks}
use Rattle.page_model.proofs.FreeSteps.{mover_is_other}
use Rattle.page_model.proofs.SlotImages.{sound_apart, object_inside}

-- the frames of an empty heap are a permutation
pub first_permuted : (n : ℕ) → IsPermuted (first_frames n)
first_permuted n = range_permuted n

four_apart : (a n b m : ℕ) → a % 4 ≡ 0 → n % 4 ≡ 0 → b % 4 ≡ 0 → m % 4 ≡ 0 → IsDisjoint a n b m → IsDisjoint (a / 4) (n / 4) (b / 4) (m / 4)
four_apart a n b m pa pn pb pm (inl l) = inl (omega arith)
four_apart a n b m pa pn pb pm (inr l) = inr (omega arith)

multiple : (x s : ℕ) → x % s ≡ 0 → s % 4 ≡ 0 → x % 4 ≡ 0
multiple x s p q =
    let e : x / s * s + x % s ≡ x = div-add-mod' x s in
    let f : 4 * (s / 4) ≡ s = omega arith in
    let g : x ≡ x / s * (4 * (s / 4)) = rw f (omega arith) in
    let h : x ≡ 4 * (x / s * (s / 4)) = omega arith in
    omega arith

module _ (p : Paging) (ok : IsPaging p) (b : AreBlocks p) (m : Held) (s : IsSound p m) where
  -- a slot is a whole number of blocks
  pub place_is_block : (h : ℕ) (x : Placed) → get m h ≡ Some x → x.place % 4 ≡ 0
  place_is_block h x f =
      let slot = s.slots h x f in
      let page = b.page in
      let e : x.place / p.page_words * p.page_words + x.place % p.page_words ≡ x.place = div-add-mod' x.place p.page_words in
      let inner = multiple (x.place % p.page_words) (slot_words p (class_at p x)) slot.aligned (b.slot (class_at p x)) in
      let outer = multiple (x.place / p.page_words * p.page_words) p.page_words (mul-mod_left (x.place / p.page_words) p.page_words) page in
      omega arith

  size_is_blocks : (n : ℕ) → slot_for p n % 4 ≡ 0
  size_is_blocks n = b.slot (class_for p n)

  -- the blocks of two objects are disjoint
  pub blocks_apart : (h : ℕ) (x : Placed) (q : ℕ) (y : Placed) → get m h ≡ Some x → get m q ≡ Some y → q ≢ h
      → IsDisjoint (x.place / 4) (slot_for p (length x.bytes) / 4) (y.place / 4) (slot_for p (length y.bytes) / 4)
  blocks_apart h x q y e f ne = four_apart x.place (slot_for p (length x.bytes)) y.place (slot_for p (length y.bytes))
      (place_is_block h x e) (size_is_blocks (length x.bytes)) (place_is_block q y f) (size_is_blocks (length y.bytes))
      ((sound_apart p m s).pairs h x q y e f ne)

  -- the blocks of an object are in the table
  pub blocks_inside : (h : ℕ) (x : Placed) → get m h ≡ Some x → x.place / 4 + slot_for p (length x.bytes) / 4 ≤ p.pages * p.page_words / 4
  blocks_inside h x e =
      let inside = object_inside p m s h x e in
      let place = place_is_block h x e in
      let size = size_is_blocks (length x.bytes) in
      quarter x.place (slot_for p (length x.bytes)) (p.pages * p.page_words) place size inside
    where
      quarter : (a n r : ℕ) → a % 4 ≡ 0 → n % 4 ≡ 0 → a + n ≤ r → a / 4 + n / 4 ≤ r / 4
      quarter a n r pa pn le = omega arith

  module _ (frames : List ℕ) (len : length frames ≡ p.pages * p.page_words / 4) where
    -- two objects share no block
    pub no_block_shared : IsPermuted frames → (h : ℕ) (x : Placed) (q : ℕ) (y : Placed) → get m h ≡ Some x → get m q ≡ Some y → q ≢ h
        → (i j : ℕ) → i < slot_for p (length x.bytes) / 4 → j < slot_for p (length y.bytes) / 4 → block_of frames x.place i ≢ block_of frames y.place j
    no_block_shared perm h x q y e f ne i j li lj same =
        let apart = blocks_apart h x q y e f ne in
        let ix = blocks_inside h x e in
        let iy = blocks_inside q y f in
        let at = entry_once frames (length frames) refl perm (x.place / 4 + i) (y.place / 4 + j) (omega arith) (omega arith) same in
        elim apart [ inl l ↦ omega arith | inr l ↦ omega arith ]

outside_kept : (frames : List ℕ) (a b n c k i : ℕ) → IsDisjoint a n b n → IsDisjoint a n c k → IsDisjoint b n c k → i < k → c + k ≤ length frames
    → get_or (exchanged frames a b n) (c + i) 0 ≡ get_or frames (c + i) 0
outside_kept frames a b n c k i apart ac bc lt inside =
    get_or-exchanged frames a b n (c + i) (omega arith) ∙ ap (λ v. get_or frames v 0) (partner_else a b n apart (c + i) (away a n ac) (away b n bc))
  where
    away : (a n : ℕ) → IsDisjoint a n c k → (c + i < a) ⊎ (a + n ≤ c + i)
    away a n (inl l) = inr (omega arith)
    away a n (inr l) = inl (omega arith)

moved_kept : (frames : List ℕ) (a b n i : ℕ) → IsDisjoint a n b n → i < n → b + n ≤ length frames
    → get_or (exchanged frames a b n) (b + i) 0 ≡ get_or frames (a + i) 0
moved_kept frames a b n i apart lt inside =
    get_or-exchanged frames a b n (b + i) (omega arith) ∙ ap (λ v. get_or frames v 0)
    (partner_second a b n apart (b + i) (omega arith) (omega arith) ∙ omega arith)

-- A free of object h, or the second half of a resize, which frees its old slot. All objects but h are then those that the free leaves.
module _ (p : Paging) (ok : IsPaging p) (b : AreBlocks p) (m : Held) (s : IsSound p m) (h : ℕ) (x : Placed) (is-x : get m h ≡ Some x)
    (frames : List ℕ) (len : length frames ≡ p.pages * p.page_words / 4) (after : CallResult)
    (left : (r : ℕ) → r ≢ h → get after.held r ≡ get (without m h x.place after.moved) r) where
  module _ (q : ℕ) (y : Placed) (moved : after.moved ≡ Some q) (there : get m q ≡ Some y) (must : MustMove p m x) (may : MayFill p m x y) where
    other : q ≢ h
    other = mover_is_other p ok m s h x is-x q y there must may

    -- the object that moved is at the freed address
    arrived : get after.held q ≡ Some (record { place = x.place; bytes = y.bytes })
    arrived = left q other ∙ rw (moved, there) (get_inserted (remove m h) q (record { place = x.place; bytes = y.bytes }))

    frames_are : frames_after p m after frames ≡ exchanged frames (y.place / 4) (x.place / 4) (slot_for p (length y.bytes) / 4)
    frames_are = (let a = arrived in rw (moved, there, a) refl)

    size_is : slot_for p (length y.bytes) / 4 ≡ slot_for p (length x.bytes) / 4
    size_is = ap (λ c. slot_words p c / 4) may.class

    runs_apart : IsDisjoint (y.place / 4) (slot_for p (length y.bytes) / 4) (x.place / 4) (slot_for p (length y.bytes) / 4)
    runs_apart = (let e = size_is in subst (λ n. IsDisjoint (y.place / 4) (slot_for p (length y.bytes) / 4) (x.place / 4) n) (sym e)
        (blocks_apart p ok b m s q y h x there is-x (λ e. other (sym e))))

    kept_by_move : (r : ℕ) (z z' : Placed) → r ≢ h → get m r ≡ Some z → get after.held r ≡ Some z' → (i : ℕ) → i < slot_for p (length z.bytes) / 4
        → block_of (frames_after p m after frames) z'.place i ≡ block_of frames z.place i
    kept_by_move r z z' ne e e' i lt = elim (cases_eq r q) [
      | inl is ↦ (
          let a : get m q ≡ Some z = rw is at e in
          let a' : get after.held q ≡ Some z' = rw is at e' in
          let same : y ≡ z = cc in
          let there' = arrived in
          let same' : ◌≡◌ {A = Placed} (record { place = x.place; bytes = y.bytes }) z' = cc in
          let lt' : i < slot_for p (length y.bytes) / 4 = rw (← same) at lt in
          let inside = blocks_inside p ok b m s h x is-x in
          let size = size_is in
          let f = frames_are in
          rw (f, ← same, ← same') (moved_kept frames (y.place / 4) (x.place / 4) (slot_for p (length y.bytes) / 4) i runs_apart lt' (omega arith)))
      | inr nq ↦ (
          let at : get (without m h x.place after.moved) r ≡ Some z =
          rw (moved, there) (get_insert_other (remove m h) q _ r nq ∙ get_remove_other m h r ne ∙ e) in
          let l = left r ne in
          let same : z ≡ z' = cc in
          let f = frames_are in
          let inside = blocks_inside p ok b m s r z e in
          let size = size_is in
          let bx : IsDisjoint (x.place / 4) (slot_for p (length y.bytes) / 4) (z.place / 4) (slot_for p (length z.bytes) / 4) =
          subst (λ n. IsDisjoint (x.place / 4) n (z.place / 4) (slot_for p (length z.bytes) / 4)) (sym size) (blocks_apart p ok b m s h x r z is-x e ne) in
          rw (f, ← same) (outside_kept frames (y.place / 4) (x.place / 4) (slot_for p (length y.bytes) / 4) (z.place / 4)
          (slot_for p (length z.bytes) / 4) i runs_apart
          (blocks_apart p ok b m s q y r z there e nq) bx lt (omega arith)))
    ]

    permuted_by_move : IsPermuted frames → IsPermuted (frames_after p m after frames)
    permuted_by_move perm =
        let f = frames_are in
        let inside_x = blocks_inside p ok b m s h x is-x in
        let inside_y = blocks_inside p ok b m s q y there in
        let size = size_is in
        rw f (exchanged_permuted frames (y.place / 4) (x.place / 4) (slot_for p (length y.bytes) / 4) runs_apart (omega arith) (omega arith) perm)

    length_by_move : length (frames_after p m after frames) ≡ length frames
    length_by_move = (let f = frames_are in rw f (length-exchanged frames _ _ _))

  -- each block of another object stays
  pub blocks_kept : (moved : Option ℕ) → after.moved ≡ moved → Moves p m x moved → (r : ℕ) (z z' : Placed) → r ≢ h → get m r ≡ Some z
      → get after.held r ≡ Some z' → (i : ℕ) → i < slot_for p (length z.bytes) / 4
      → block_of (frames_after p m after frames) z'.place i ≡ block_of frames z.place i
  blocks_kept None is never r z z' ne e e' i lt =
      let l = left r ne in
      let at : get (without m h x.place after.moved) r ≡ Some z = rw is (get_remove_other m h r ne ∙ e) in
      let same : z ≡ z' = cc in
      rw (is, ← same) refl
  blocks_kept (Some q) is (must, (y, there, may)) r z z' ne e e' i lt = kept_by_move q y is there must may r z z' ne e e' i lt

  pub frames_permuted : (moved : Option ℕ) → after.moved ≡ moved → Moves p m x moved → IsPermuted frames → IsPermuted (frames_after p m after frames)
  frames_permuted None is never perm = rw is perm
  frames_permuted (Some q) is (must, (y, there, may)) perm = permuted_by_move q y is there must may perm

  pub frames_as_many : (moved : Option ℕ) → after.moved ≡ moved → Moves p m x moved → length (frames_after p m after frames) ≡ length frames
  frames_as_many None is never = rw is refl
  frames_as_many (Some q) is (must, (y, there, may)) = length_by_move q y is there must may

-- each word of a slot is in the physical block of its virtual block
pub physical_word : (p : Paging) → IsPaging p → AreBlocks p → (m : Held) → IsSound p m → (frames words physical : List ℕ)
    → length frames ≡ p.pages * p.page_words / 4
    → IsSlotImage p m words → IsPhysical frames words physical → (h : ℕ) (x : Placed) → get m h ≡ Some x → (i : ℕ) → i < slot_for p (length x.bytes)
    → get_or physical (4 * block_of frames x.place (i / 4) + i % 4) 0 ≡ object_word h x.bytes i
physical_word p ok b m s frames words physical len im ph h x e i lt =
    let inside = blocks_inside p ok b m s h x e in
    let size = b.slot (class_at p x) in
    let place = place_is_block p ok b m s h x e in
    let at : 4 * (x.place / 4 + i / 4) + i % 4 ≡ x.place + i = omega arith in
    ph.word (x.place / 4 + i / 4) (i % 4) (omega arith) (omega arith) ∙ ap (λ w. get_or words w 0) at ∙ im.held h x e i lt
