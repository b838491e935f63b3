-- For `calls_keep_the_blocks_of_others` and the crate `paged_heap`: with a block table, the physical blocks of the other objects, and the words in them, stay
-- in a free or a resize, refused or not.
use Rattle.std.proofs.Common.{◌≡◌, ◌≢◌, ℕ, ◌+◌, ◌*◌, ◌/◌, ◌%◌, ◌<◌, List, Some, length, get_or, arith, sym, ◌∙◌, subst, ap, refl}
use Rattle.std.proofs.lemmas.Option.{same_Some as some_equal, same_Some as placed_equal}
use Rattle.std.specs.FinMap.{get}
use Rattle.cf_base.proofs.Maps.{get_insert_other, get_remove_other}
use Rattle.cf_base.specs.declared.results.Freed.{Freed}
use Rattle.cf_base.specs.declared.results.Resized.{Resized}
use Rattle.cf_base.specs.declared.kind.Kind.TheVariants.{NonMoving}
use Rattle.page_model.specs.Held.{Placed, objects}
use Rattle.page_model.specs.Paging.{IsPaging, paging_of}
use Rattle.page_model.specs.Arrangement.{IsSound}
use Rattle.page_model.specs.Frames.{AreBlocks, IsPhysical, block_of, frames_after}
use Rattle.page_model.specs.Image.{IsSlotImage, object_word, slot_for}
use Rattle.page_model.specs.Steps.{Request, CallResult, Moves, RemovesObject as IsFreedBy}
use Rattle.page_model.proofs.CallerLemmas.{bytes_held, free_blocks, resize_blocks, physical_word, in_blocks}
use Rattle.cf_model.specs.State.{HeapState, paging_in, layout_of}
use Rattle.cf_model.specs.Rules.{KeepsRules, KeepsRulesOf}
use Rattle.cf_model.specs.Steps.{FreesObject, ResizesObject, BlocksStay, MovesIn, frames_left, call_result, number_of}

-- the rules of the non-moving manager that this file uses
record Framed (s : HeapState) : Type 0 where
  paging : IsPaging (paging_in s)
  blocks : AreBlocks (paging_in s)
  sound : IsSound (paging_in s) s.held
  slots : IsSlotImage (paging_in s) s.held s.words
  count : length s.frames ≡ (paging_in s).pages * (paging_in s).page_words / 4

framed : (s : HeapState) → s.kind ≡ NonMoving → KeepsRules s → Framed s
framed s is keeps =
    let own : KeepsRulesOf NonMoving s = subst (λ k. KeepsRulesOf k s) is keeps.of_kind in
    let pages = own.0 in
    let frames = own.1.count in
    record {
      paging = pages.paging;
      blocks = subst (λ k. AreBlocks (paging_of s.profile (layout_of k) s.bounds)) (sym is) (in_blocks s.profile s.bounds keeps.settings.page_size);
      sound = pages.sound;
      slots = pages.slots;
      count = omega arith;
    }

-- an object with the same bytes in the same physical blocks before and after a call has the same words in them
module _ (old new : HeapState) (o : Framed old) (n : Framed new) (same : paging_in new ≡ paging_in old)
    (q : ℕ) (x y : Placed) (e : get old.held q ≡ Some x) (f : get new.held q ≡ Some y) (bytes : y.bytes ≡ x.bytes) where
  words_stay : (before after : List ℕ) → IsPhysical old.frames old.words before → IsPhysical new.frames new.words after
      → (i j : ℕ) → i < slot_for (paging_in old) (length x.bytes) / 4 → j < 4 → block_of new.frames y.place i ≡ block_of old.frames x.place i
      → get_or after (4 * block_of old.frames x.place i + j) 0 ≡ get_or before (4 * block_of old.frames x.place i + j) 0
  words_stay before after is is' i j lt low stay =
      let at : (4 * i + j) / 4 ≡ i = omega arith in
      let rest : (4 * i + j) % 4 ≡ j = omega arith in
      let inside : 4 * i + j < slot_for (paging_in old) (length x.bytes) = omega arith in
      let inside' : 4 * i + j < slot_for (paging_in new) (length y.bytes) =
      subst (λ p. 4 * i + j < slot_for p (length y.bytes)) (sym same) (subst (λ v. 4 * i + j < slot_for (paging_in old) (length v)) (sym bytes) inside) in
      let a = physical_word (paging_in old) o.paging o.blocks old.held o.sound old.frames old.words before o.count o.slots is q x e (4 * i + j) inside in
      let b = physical_word (paging_in new) n.paging n.blocks new.held n.sound new.frames new.words after n.count n.slots is' q y f (4 * i + j) inside' in
      let a' : get_or before (4 * block_of old.frames x.place i + j) 0 ≡ object_word q x.bytes (4 * i + j) = rw (at, rest) at a in
      let b' : get_or after (4 * block_of new.frames y.place i + j) 0 ≡ object_word q y.bytes (4 * i + j) = rw (at, rest) at b in
      let b'' : get_or after (4 * block_of old.frames x.place i + j) 0 ≡ object_word q y.bytes (4 * i + j) = rw stay at b' in
      b'' ∙ ap (λ v. object_word q v (4 * i + j)) bytes ∙ sym a'

pub blocks_after_free : (old : HeapState) (h : ℕ) (freed : Freed) (new : HeapState) → old.kind ≡ NonMoving → KeepsRules old → KeepsRules new
    → FreesObject old h freed new → BlocksStay old h new
blocks_after_free old h freed new is before after f =
    let moved = number_of freed.moved in
    let o = framed old is before in
    let n = framed new (f.rest.kind ∙ is) after in
    let same : paging_in new ≡ paging_in old = λ i. paging_of (f.rest.profile i) (layout_of (f.rest.kind i)) (f.rest.bounds i) in
    let out : CallResult = call_result old h f.object moved in
    let moves : Moves (paging_in old) old.held f.object moved = subst (λ k. MovesIn k old f.object moved) is f.moves in
    let step : IsFreedBy (paging_in old) old.held h out = record { freed = f.object; found = f.found; moves = moves; left = refl } in
    let frames : new.frames ≡ frames_after (paging_in old) old.held out old.frames = f.frames ∙ ap (λ k. frames_left k old out) is in
    let held : new.held ≡ out.held = f.held in
    let stay : (q : ℕ) (x y : Placed) → q ≢ h → get old.held q ≡ Some x → get new.held q ≡ Some y → (i : ℕ) → i < slot_for (paging_in old) (length x.bytes) / 4
    → block_of new.frames y.place i ≡ block_of old.frames x.place i
    = λ q x y ne e g i lt. rw frames (free_blocks (paging_in old) old.held old.frames o.paging o.blocks o.sound o.count h out step q x y ne e
    (ap (λ m. get m q) (sym held) ∙ g) i lt) in
    record {
      blocks = stay;
      words = λ before after ph ph' q x y ne e g i j lt low.
          let bytes = some_equal y.bytes x.bytes (sym (bytes_held new.held q y g) ∙ ap (λ m. get m q) f.left ∙ get_remove_other (objects old.held) h q ne
          ∙ bytes_held old.held q x e) in
          words_stay old new o n same q x y e g bytes before after ph ph' i j lt low (stay q x y ne e g i lt);
    }

pub blocks_after_resize : (old : HeapState) (asked : Request) (done : Resized) (new : HeapState) → old.kind ≡ NonMoving → KeepsRules old → KeepsRules new
    → ResizesObject old asked done new → BlocksStay old asked.number new
blocks_after_resize old asked done new is before after f =
    let o = framed old is before in
    let n = framed new (ap (λ (s : HeapState). s.kind) f.whole ∙ is) after in
    let same : paging_in new ≡ paging_in old = ap paging_in f.whole in
    let out : CallResult = record { held = new.held; moved = number_of done.moved } in
    let frames : new.frames ≡ frames_after (paging_in old) old.held out old.frames = ap (λ (s : HeapState). s.frames) f.whole
    ∙ ap (λ k. frames_left k old out) is in
    let stay : (q : ℕ) (x y : Placed) → q ≢ asked.number → get old.held q ≡ Some x → get new.held q ≡ Some y → (i : ℕ)
    → i < slot_for (paging_in old) (length x.bytes) / 4 → block_of new.frames y.place i ≡ block_of old.frames x.place i
    = λ q x y ne e g i lt. rw frames (resize_blocks (paging_in old) old.held old.frames o.paging o.blocks o.sound o.count asked out f.step q x y ne e g i lt) in
    record {
      blocks = stay;
      words = λ before after ph ph' q x y ne e g i j lt low.
          let bytes = some_equal y.bytes x.bytes (sym (bytes_held new.held q y g) ∙ ap (λ m. get m q) f.left
          ∙ get_insert_other (objects old.held) asked.number _ q ne ∙ bytes_held old.held q x e) in
          words_stay old new o n same q x y e g bytes before after ph ph' i j lt low (stay q x y ne e g i lt);
    }

-- if only the cost changes, each object keeps its blocks and their words
pub blocks_after_refusal : (old : HeapState) (h : ℕ) (new : HeapState) → new ≡ record old { cost = new.cost } → old.kind ≡ NonMoving → KeepsRules old
    → KeepsRules new → BlocksStay old h new
blocks_after_refusal old h new whole is before after =
    let o = framed old is before in
    let n = framed new (ap (λ (s : HeapState). s.kind) whole ∙ is) after in
    let same : paging_in new ≡ paging_in old = ap paging_in whole in
    let held : new.held ≡ old.held = ap (λ (s : HeapState). s.held) whole in
    let frames : new.frames ≡ old.frames = ap (λ (s : HeapState). s.frames) whole in
    let equal : (q : ℕ) (x y : Placed) → get old.held q ≡ Some x → get new.held q ≡ Some y
    → y ≡ x = λ q x y e g. placed_equal y x (sym g ∙ ap (λ m. get m q) held ∙ e) in
    let stay : (q : ℕ) (x y : Placed) → get old.held q ≡ Some x → get new.held q ≡ Some y → (i : ℕ)
    → block_of new.frames y.place i ≡ block_of old.frames x.place i
    = λ q x y e g i. (let s = equal q x y e g in rw (frames, s) refl) in
    record {
      blocks = λ q x y ne e g i lt. stay q x y e g i;
      words = λ before after ph ph' q x y ne e g i j lt low.
          words_stay old new o n same q x y e g (ap (λ (z : Placed). z.bytes) (equal q x y e g)) before after ph ph' i j lt low (stay q x y e g i);
    }
