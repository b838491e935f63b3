-- What the parts of a free and of a slice do: `start_clearing`, `fill` and `start_move`; and the fault of a free (`fault_in`), which alone public clauses cite.
use Rattle.std.specs.Prelude.{◌≡◌, ℕ, ◌∷◌, ◌+◌, ◌%◌, ◌^◌, Bool, true, false, Option, Some, None, Result, Ok, Err, slice_index}
use Rattle.std.specs.FinMap.{get, remove}
use Rattle.page_model.specs.Arrangement.{class_at, objects_on}
use Rattle.page_model.specs.Held.{Placed}
use Rattle.page_model.specs.Order.{IsNextToMove, steps_to_drop, steps_to_fill}
use Rattle.page_model.specs.Paging.{page_of}
use Rattle.page_model.specs.Steps.{MustMove}
use Rattle.page_slots.specs.Release.{IsFiller}
use Rattle.proxy_table.specs.Proxies.{AreBelowLimit, with_place}
use Rattle.slice_model.specs.declared.job_slot.JobSlot.{JobSlot}
use Rattle.slice_model.specs.State.{occupied, placeholder, Clear, Move}
use Rattle.slice_model.specs.Steps.{BeginsMove, IsBeside, fresh_slot}
use Rattle.slice_model.specs.declared.refusals.SliceFault.{SliceFault}
use Rattle.sliced_heap.specs.Heap.{Heap}
use Rattle.sliced_heap.specs.Layout.{plan_of, sliced_order_in, sliced_paging, sliced_state_of}

-- the fault of a free from the function's result; None if it was not refused
abbrev pub fault_in : {T : Type 0} → Result T SliceFault → Option SliceFault
fault_in (Ok u) = None
fault_in (Err e) = Some e

-- what `start_clearing` does: object q is removed, its number is the next spare one, and its slot k is what the new job clears; no word of the region changes
pub record StartsClearing (old : Heap) (q : ℕ) (k : JobSlot) (new : Heap) : Type 0 where
  pub object : Placed
  pub found : get (sliced_state_of old).held q ≡ Some object
  pub slot : k ≡ fresh_slot object.place (class_at (sliced_paging old) object)
  pub state : sliced_state_of new ≡ record { held = remove (sliced_state_of old).held q; job = Clear k }
  pub job : new.job ≡ Clear k
  pub words : new.words ≡ old.words
  pub plan : plan_of new ≡ plan_of old
  pub quantum : new.quantum ≡ old.quantum
  pub order : sliced_order_in new ≡ record (sliced_order_in old) { spare = q ∷ (sliced_order_in old).spare }

-- What `fill` does with slot k if it must be filled. The object that the order lists next to move is on another page of the class, a partly full one. It
-- gets the slot's address, and the new job moves it there. No word of the region changes. Each page holds as many objects of each class as before, if the
-- pending job's slot counts as one (`counts`), and freeing the slot that the object leaves takes 2 steps less than finding and freeing it (`leaves`).
pub record IsFilled (old : Heap) (k : JobSlot) (new : Heap) : Type 0 where
  pub must : MustMove (sliced_paging old) (occupied (plan_of old) (sliced_state_of old)) (placeholder (sliced_paging old) k)
  pub object : ℕ
  pub beside : IsBeside (sliced_paging old) (sliced_state_of old).held k.address k.class object
  pub next : IsNextToMove (sliced_paging old) (occupied (plan_of old) (sliced_state_of old)) (sliced_order_in old) k.class beside.object
  pub carries : BeginsMove (sliced_state_of old).held object k.address k.class (sliced_state_of new)
  pub words : new.words ≡ old.words
  pub plan : plan_of new ≡ plan_of old
  pub quantum : new.quantum ≡ old.quantum
  pub order : sliced_order_in new ≡ sliced_order_in old
  pub counts : (c page : ℕ) → objects_on (sliced_paging old) (occupied (plan_of new) (sliced_state_of new)) c page
      ≡ objects_on (sliced_paging old) (occupied (plan_of old) (sliced_state_of old)) c page
  pub leaves : steps_to_fill (sliced_paging old) (occupied (plan_of old) (sliced_state_of old)) (sliced_order_in old) k.class
      ≡ 2 + steps_to_drop (sliced_paging old) (occupied (plan_of old) (sliced_state_of old)) k.class (page_of (sliced_paging old) beside.object.place)

-- what `fill` does with slot k if it need not be filled: nothing
pub record StaysVacant (old : Heap) (k : JobSlot) (new : Heap) : Type 0 where
  pub stays : ¬ MustMove (sliced_paging old) (occupied (plan_of old) (sliced_state_of old)) (placeholder (sliced_paging old) k)
  pub same : new ≡ old

-- what `fill` does with slot k, by its result: true if it fills the slot
abbrev pub FillsSlot : Heap → JobSlot → Bool → Heap → Type 0
FillsSlot old k true new = IsFilled old k new
FillsSlot old k false new = StaysVacant old k new

-- What `start_move` does: the filler is the object that fills slot k. The lower half of the word at its address `from` is its number. Its proxy gets the address
-- of slot k, and the new job moves it there.
pub record StartsMove (old : Heap) (k : JobSlot) (new : Heap) : Type 0 where
  pub from : ℕ
  pub filler : IsFiller old.classes old.maps old.lists k.class from
  pub handles : AreBelowLimit new.proxies
  pub free : new.proxies.free ≡ old.proxies.free
  pub whole : new ≡ record old {
    proxies = with_place old.proxies (slice_index old.words from % 2 ^ 32) k.address;
    job = Move (slice_index old.words from % 2 ^ 32) (fresh_slot from k.class);
  }
