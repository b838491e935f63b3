-- For the laws of `blocks.rt`: after a free or a resize the block table is still a permutation, and `AreFramed` still holds. The other objects keep their
-- physical blocks, and so does an object resized within its class.
use Rattle.std.proofs.Common.{◌≡◌, ◌≢◌, ℕ, ◌*◌, ◌/◌, ◌<◌, List, Some, length, ◌∙◌, inl, inr, ap, refl}
use Rattle.std.specs.FinMap.{get}
use Rattle.cf_base.proofs.Maps.{get_inserted, get_insert_other}
use Rattle.page_model.specs.Held.{Held, Placed}
use Rattle.page_model.specs.Paging.{Paging, IsPaging}
use Rattle.page_model.specs.Arrangement.{IsSound}
use Rattle.page_model.specs.Steps.{Request, CallResult, without, RemovesObject, RefitsObject, ResizesInPlace, ChangesClass, resized_at}
use Rattle.page_model.specs.Image.{slot_for}
use Rattle.page_model.specs.Frames.{IsPermuted, frames_after, block_of, AreBlocks, AreFramed}
use Rattle.page_model.proofs.Frames.{blocks_kept, frames_permuted, frames_as_many}
use Rattle.page_model.proofs.Resizing.{change_is, sound_resize}
use Rattle.page_model.proofs.FreeSteps.{sound_free}

-- a resize within the class keeps the object's own blocks
pub in_place_blocks : (p : Paging) (old : Held) (frames : List ℕ) (asked : Request) (after : CallResult) → ResizesInPlace p old asked after → (y z : Placed)
    → get old asked.number ≡ Some y → get after.held asked.number ≡ Some z → (i : ℕ)
    → block_of (frames_after p old after frames) z.place i ≡ block_of frames y.place i
in_place_blocks p old frames asked after r y z e f i =
    let found = r.found in
    let at : get after.held asked.number ≡ Some (resized_at r.object.place r.object asked.length) = ap (λ m. get m asked.number) r.placed
    ∙ get_inserted old asked.number _ in
    let same : ◌≡◌ {A = Placed} (resized_at r.object.place r.object asked.length) z = cc in
    let same' : r.object ≡ y = cc in
    let still = r.still in
    rw (still, ← same, ← same') refl

module _ (p : Paging) (old : Held) (frames : List ℕ) (ok : IsPaging p) (b : AreBlocks p) (s : IsSound p old)
    (len : length frames ≡ p.pages * p.page_words / 4) where
  module _ (h : ℕ) (after : CallResult) (step : RemovesObject p old h after) where
    left : (r : ℕ) → r ≢ h → get after.held r ≡ get (without old h step.freed.place after.moved) r
    left r ne = ap (λ m. get m r) step.left

    pub free_blocks : (q : ℕ) (y z : Placed) → q ≢ h → get old q ≡ Some y → get after.held q ≡ Some z → (i : ℕ) → i < slot_for p (length y.bytes) / 4
        → block_of (frames_after p old after frames) z.place i ≡ block_of frames y.place i
    free_blocks q y z ne e f i lt = blocks_kept p ok b old s h step.freed step.found frames len after left after.moved refl step.moves q y z ne e f i lt

    pub free_frames : IsPermuted frames → IsPermuted (frames_after p old after frames) × (length (frames_after p old after frames) ≡ length frames)
    free_frames perm = (
      frames_permuted p ok b old s h step.freed step.found frames len after left after.moved refl step.moves perm,
      frames_as_many p ok b old s h step.freed step.found frames len after left after.moved refl step.moves,
    )

  module _ (asked : Request) (after : CallResult) where
    changed_left : (r : ChangesClass p old asked after) → (q : ℕ) → q ≢ asked.number
        → get after.held q ≡ get (without old asked.number r.object.place after.moved) q
    changed_left r q ne = ap (λ m. get m q) (change_is p ok old s asked after r).1 ∙ get_insert_other _ asked.number _ q ne

    pub resize_blocks : RefitsObject p old asked after → (q : ℕ) (y z : Placed) → q ≢ asked.number → get old q ≡ Some y → get after.held q ≡ Some z → (i : ℕ)
        → i < slot_for p (length y.bytes) / 4
        → block_of (frames_after p old after frames) z.place i ≡ block_of frames y.place i
    resize_blocks (inl r) q y z ne e f i lt =
        let at : get after.held q ≡ Some y = ap (λ m. get m q) r.placed ∙ get_insert_other old asked.number _ q ne ∙ e in
        let same : y ≡ z = cc in
        let still = r.still in
        rw (still, ← same) refl
    resize_blocks (inr r) q y z ne e f i lt = blocks_kept p ok b old s asked.number r.object r.found frames len after (changed_left r) after.moved refl
        (change_is p ok old s asked after r).0 q y z ne e f i lt

    pub resize_frames : RefitsObject p old asked after → IsPermuted frames
        → IsPermuted (frames_after p old after frames) × (length (frames_after p old after frames) ≡ length frames)
    resize_frames (inl r) perm = (let still = r.still in rw still (perm, refl))
    resize_frames (inr r) perm = (
      frames_permuted p ok b old s asked.number r.object r.found frames len after (changed_left r) after.moved refl (change_is p ok old s asked after r).0 perm,
      frames_as_many p ok b old s asked.number r.object r.found frames len after (changed_left r) after.moved refl (change_is p ok old s asked after r).0,
    )

-- a free keeps what `AreFramed` says of objects and frames
pub framed_free : (p : Paging) (old : Held) (frames : List ℕ) (h : ℕ) (after : CallResult) → AreFramed p old frames → RemovesObject p old h after
    → AreFramed p after.held (frames_after p old after frames)
framed_free p old frames h after f step =
    let r = free_frames p old frames f.paged f.blocks f.sound f.count h after step f.permuted in
    record { paged = f.paged; blocks = f.blocks; sound = sound_free p old h after f.paged f.sound step; count = r.1 ∙ f.count; permuted = r.0 }

-- so does a resize
pub framed_resize : (p : Paging) (old : Held) (frames : List ℕ) (asked : Request) (after : CallResult) → AreFramed p old frames → RefitsObject p old asked after
    → AreFramed p after.held (frames_after p old after frames)
framed_resize p old frames asked after f step =
    let r = resize_frames p old frames f.paged f.blocks f.sound f.count asked after step f.permuted in
    record { paged = f.paged; blocks = f.blocks; sound = sound_resize p old asked after f.paged f.sound step; count = r.1 ∙ f.count; permuted = r.0 }
