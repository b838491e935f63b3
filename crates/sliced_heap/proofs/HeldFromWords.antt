-- The region's words, as they are when the pending job is done, and the addresses by number determine all objects that contracts show (`sliced_state_of`). Also
-- the words after a job's last slice (`AreEnded`), that the words that are yet to move don't overlap their new places, and that an object in motion is of the
-- class of the job's slot.
use Rattle.std.proofs.Common.{◌≡◌, ℕ, ◌+◌, ◌-◌, ◌*◌, ◌<◌, ◌≤◌, List, Option, Some, None, length, get_or, arith, refl, sym, ◌∙◌, ap, subst}
use Rattle.std.specs.Prelude.{option_map}
use Rattle.std.specs.Ordering.{nat_cmp}
use Rattle.std.specs.FinMap.{FinMap, get}
use Rattle.cf_base.proofs.Maps.{equal_maps}
use Rattle.cf_base.proofs.MapValues.{get-map_values}
use Rattle.page_model.specs.Arrangement.{class_at}
use Rattle.page_model.specs.Bytes.{AreStorable, bytes_at, held_at}
use Rattle.page_model.specs.Held.{Held, Placed, places}
use Rattle.page_model.specs.Image.{Clears, IsDisjoint, MovesWords, slot_for}
use Rattle.page_model.specs.Paging.{Paging, slot_words}
use Rattle.page_model.proofs.CallerLemmas.{bytes_of_held, class_holds}
use Rattle.region.specs.Words.{cleared, moved}
use Rattle.slice_model.specs.declared.job_slot.JobSlot.{JobSlot}
use Rattle.slice_model.specs.State.{Plan, IsPlan, Job, IsKept, Idle, Clear, Move}
use Rattle.slice_model.specs.Words.{HasWords}
use Rattle.slice_model.proofs.CallerLemmas.{job_within, kept_apart, object_slot, object_within, words_ended}
use Rattle.slice_model.proofs.CallerLemmas as model
use Rattle.sliced_heap.proofs.Moves.{part_apart}
use Rattle.region.proofs.CallerLemmas.{cleared_clears, moved_moves}
use Rattle.sliced_heap.specs.Layout.{words_after_job, words_after_move}

-- the address that the map of addresses has for an object is the object's
pub place_there : (m : Held) (at : FinMap nat_cmp ℕ) → at ≡ places m → (q : ℕ) (x : Placed) → get m q ≡ Some x → get at q ≡ Some x.place
place_there m at e q x there = ap (λ n. get n q) e ∙ get-map_values (λ (y : Placed). y.place) m q ∙ ap (option_map (λ (y : Placed). y.place)) there

-- the object that a job moves is of the class of the job's slot, however many of its words are done
pub mover_at : (p : Paging) (m : Held) (q : ℕ) (k : JobSlot) (x : Placed) → get m q ≡ Some x → class_at p x ≡ k.class → (d : ℕ)
    → (g : JobSlot) (h : ℕ) (y : Placed) → Move q (record k { done = d }) ≡ Move h g → get m h ≡ Some y → class_at p y ≡ g.class
mover_at p m q k x there class d g h y move there' =
    let e : Move q (record k { done = d }) ≡ Move h g = move in
    let a : q ≡ h = cc in
    let b : record k { done = d } ≡ g = cc in
    let f : Some x ≡ Some y = sym there ∙ ap (get m) a ∙ there' in
    let f' : x ≡ y = cc in
    sym (ap (class_at p) f') ∙ class ∙ ap (λ (z : JobSlot). z.class) b

-- These words are as they must be after the last word of a job: right for the objects m without a job, and 0 in the job's slot.
pub record AreEnded (p : Paging) (m : Held) (k : JobSlot) (words : List ℕ) : Type 0 where
  pub idle : HasWords p (record { held = m; job = Idle }) words
  pub zeros : (i : ℕ) → i < slot_words p k.class → get_or words (k.address + i) 0 ≡ 0

module _ (plan : Plan) (ok : IsPlan plan) (m : Held) (k : JobSlot) (words words' : List ℕ) (n : ℕ) (all : k.done + n ≡ slot_words plan.paging k.class) where
  pub cleared_all : IsKept plan (record { held = m; job = Clear k }) → HasWords plan.paging (record { held = m; job = Clear k }) words
      → Clears words words' (record { from = k.address + k.done; count = n }) → AreEnded plan.paging m k words'
  cleared_all kept has clears =
      let apart = kept_apart plan ok (record { held = m; job = Clear k }) kept in
      let after = model.cleared plan.paging m words words' n k apart (omega arith) has clears in
      record {
        idle = words_ended plan.paging m (Clear (record k { done = k.done + n })) (record k { done = k.done + n }) words' refl all
            (λ g h x move. absurd (let z : Clear (record k { done = k.done + n }) ≡ Move h g = move in cc)) after;
        zeros = λ i lt. after.done (record k { done = k.done + n }) refl i (omega arith);
      }

  pub moved_all : (q : ℕ) (x : Placed) → get m q ≡ Some x → class_at plan.paging x ≡ k.class → IsKept plan (record { held = m; job = Move q k })
      → HasWords plan.paging (record { held = m; job = Move q k }) words
      → MovesWords words words' (record { from = k.address + k.done; count = n }) (x.place + k.done) → AreEnded plan.paging m k words'
  moved_all q x there class kept has moves =
      let apart = kept_apart plan ok (record { held = m; job = Move q k }) kept in
      let size : slot_for plan.paging (length x.bytes) ≡ slot_words plan.paging k.class = ap (slot_words plan.paging) class in
      let after = model.carried plan.paging m words words' n q x k there size apart (omega arith) has moves in
      record {
        idle = words_ended plan.paging m (Move q (record k { done = k.done + n })) (record k { done = k.done + n }) words' refl all
            (mover_at plan.paging m q k x there class (k.done + n)) after;
        zeros = λ i lt. after.done (record k { done = k.done + n }) refl i (omega arith);
      }

-- the words of the job's slot that are yet to move don't overlap the place to which they move
pub parts_apart : (plan : Plan) → IsPlan plan → (m : Held) (q : ℕ) (k : JobSlot) → IsKept plan (record { held = m; job = Move q k }) → (x : Placed)
    → get m q ≡ Some x → class_at plan.paging x ≡ k.class → (n : ℕ) → k.done + n ≤ slot_words plan.paging k.class
    → IsDisjoint (k.address + k.done) n (x.place + k.done) n
parts_apart plan ok m q k kept x there class n le =
    let apart = kept_apart plan ok (record { held = m; job = Move q k }) kept in
    let size : slot_for plan.paging (length x.bytes) ≡ slot_words plan.paging k.class = ap (slot_words plan.paging) class in
    part_apart k.address x.place (slot_words plan.paging k.class) k.done n
    (subst (λ n. IsDisjoint k.address (slot_words plan.paging k.class) x.place n) size (apart.job k q x refl there)) le

-- if the words left of the job are done too, the words of the region are right for the objects without a job
pub completed_words : (plan : Plan) → IsPlan plan → (m : Held) (j : Job) → IsKept plan (record { held = m; job = j }) → (at : FinMap nat_cmp ℕ) → at ≡ places m
    → (words : List ℕ) → length words ≡ plan.paging.pages * plan.paging.page_words → HasWords plan.paging (record { held = m; job = j }) words
    → HasWords plan.paging (record { held = m; job = Idle }) (words_after_job plan.paging j at words)
completed_words plan ok m Idle kept at e words long has = has
completed_words plan ok m (Clear k) kept at e words long has =
    let some = kept.job.under_way in
    let within = job_within plan ok m (Clear k) kept k refl in
    (cleared_all plan ok m k words (cleared words (k.address + k.done) (slot_words plan.paging k.class - k.done)) (slot_words plan.paging k.class - k.done)
    (omega arith) kept has (cleared_clears words (k.address + k.done) (slot_words plan.paging k.class - k.done) (omega arith))).idle
completed_words plan ok m (Move q k) kept at e words long has =
    let some = kept.job.0.under_way in
    let o = kept.job.1 in
    let within = job_within plan ok m (Move q k) kept k refl in
    let inside = object_within plan ok m (Move q k) kept q o.0 o.1 in
    let size : slot_for plan.paging (length o.0.bytes) ≡ slot_words plan.paging k.class = ap (slot_words plan.paging) o.2 in
    let there : get at q ≡ Some o.0.place = place_there m at e q o.0 o.1 in
    let far = parts_apart plan ok m q k kept o.0 o.1 o.2 (slot_words plan.paging k.class - k.done) (omega arith) in
    let moves = moved_moves words (k.address + k.done) (o.0.place + k.done) (slot_words plan.paging k.class - k.done) (omega arith) (omega arith) far in
    let ended = moved_all plan ok m k words (moved words (k.address + k.done) (o.0.place + k.done) (slot_words plan.paging k.class - k.done))
    (slot_words plan.paging k.class - k.done) (omega arith) q o.0 o.1 o.2 kept has moves in
    subst (λ z. HasWords plan.paging (record { held = m; job = Idle }) (words_after_move plan.paging k z words)) (sym there) ended.idle

module _ (plan : Plan) (ok : IsPlan plan) (m : Held) (j : Job) (kept : IsKept plan (record { held = m; job = j })) (at : FinMap nat_cmp ℕ) (e : at ≡ places m)
    (words : List ℕ) (long : length words ≡ plan.paging.pages * plan.paging.page_words) (has : HasWords plan.paging (record { held = m; job = j }) words)
    (good : AreStorable m) where
  abbrev whole : List ℕ
  whole = words_after_job plan.paging j at words

  pub held_shown : held_at (words_after_job plan.paging j at words) at ≡ m
  held_shown = equal_maps _ _ (λ q. get-map_values (λ a. record { place = a; bytes = bytes_at whole a }) at q
      ∙ ap (λ p. option_map (λ a. record { place = a; bytes = bytes_at whole a }) (get p q)) e
      ∙ ap (option_map (λ a. record { place = a; bytes = bytes_at whole a })) (get-map_values (λ (x : Placed). x.place) m q) ∙ go q (get m q) refl)
    where
      idle : HasWords plan.paging (record { held = m; job = Idle }) whole
      idle = completed_words plan ok m j kept at e words long has

      go : (q : ℕ) (o : Option Placed) → get m q ≡ o → option_map (λ a. record { place = a; bytes = bytes_at whole a })
          (option_map (λ (x : Placed). x.place) o) ≡ o
      go q None f = refl
      go q (Some x) f =
          let g = good q x f in
          let holds = class_holds plan.paging ok.paging (length x.bytes) (object_slot plan ok m j kept q x f).class in
          ap (λ v. Some (record { place = x.place; bytes = v })) (bytes_of_held whole q x.place x.bytes g.0 g.1 (λ i lt. idle.held q x f i (omega arith)))
