-- For `resize_class`: the parts of a resize to a length of another class, and their steps. In these definitions x describes the resize. No public clause cites
-- this module.
use Rattle.std.specs.Prelude.{◌≡◌, ◌≢◌, ℕ, ◌+◌, ◌-◌, ◌*◌, ◌/◌, ◌≤◌, ◌<◌, min, length, List, Option, Some, None, Result, Ok, Err, slice_index, slice_set}
use Rattle.cf_base.specs.Classes.{need}
use Rattle.cf_base.specs.declared.results.Resized.{Resized}
use Rattle.cf_base.specs.declared.results.ResizeFault.{ResizeFault}
use Rattle.page_model.specs.Paging.{class_for, classes}
use Rattle.page_model.specs.Arrangement.{LacksRoom}
use Rattle.page_model.specs.Image.{MovesWords, header_word}
use Rattle.cf_base.specs.declared.kind.Kind.{Kind}
use Rattle.page_model.specs.Order.{steps_to_take, word_steps}
use Rattle.virtual_words.specs.Words.{copy_steps, slot_steps}
use Rattle.proxy_table.specs.Proxies.{AreBelowLimit, with_place}
use Rattle.page_slots.specs.Tables.{AreTables}
use Rattle.page_slots.specs.Take.{TakesAt}
use Rattle.cf_model.specs.ExactCosts.{carrying_cost, leaving_cost}
use Rattle.paged_heap.specs.Heap.{Heap}
use Rattle.paged_heap.specs.declared.resize_class.Change.{Change}
use Rattle.paged_heap.specs.ZeroTail.{Cuts}
use Rattle.page_slots.specs.Owner.{IsObjectAt, placed_at}
use Rattle.paged_heap.specs.Layout.{held_in, order_in, owner_in, paging_at, state_of, tables_in}

-- x describes a resize of a live object whose new length has another class
pub record IsChange (h : Heap) (x : Change) : Type 0 where
  pub object : IsObjectAt (owner_in h) x.handle.0 x.place x.length x.class
  pub fits : need x.bytes ≤ h.settings.page_words
  pub class : class_for (paging_at h) x.bytes ≡ x.to
  pub in_range : x.to < classes (paging_at h)
  pub other : x.to ≢ x.class

-- the number of words of a slot of the object's old class
abbrev pub old_words : Heap → Change → ℕ
old_words h x = slice_index h.classes.sizes x.class

-- the number of words that hold the bytes that both lengths have, without the header
abbrev pub kept_words : Change → ℕ
kept_words x = (min x.length x.bytes + 7) / 8

-- What `copy_to_slot` does to the words: the kept ones are copied to the slot at b and cleared at their old place (`moved`); if the object becomes shorter,
-- its bytes from the new length on are cleared (`cut`); and its header is written at b.
pub record CopiesToSlot (old new : List ℕ) (x : Change) (b : ℕ) : Type 0 where
  pub moved : List ℕ
  pub moves : MovesWords old moved (record { from = x.place + 1; count = kept_words x }) (b + 1)
  pub long : length moved ≡ length old
  pub cut : List ℕ
  pub shorter : x.bytes < 8 * kept_words x → Cuts moved cut b x.bytes (8 * kept_words x)
  pub as_long : 8 * kept_words x ≤ x.bytes → cut ≡ moved
  pub whole : new ≡ slice_set cut b (header_word x.handle.0 x.bytes)

-- The heap n results from the heap h by the copy to the slot at b, before the old slot is freed: the object has the address b, in a slot of its new class, and
-- its old slot is still used. Settings, classes, bounds and block table stay, and the counts are those after the resize.
pub record EntersAt (h : Heap) (x : Change) (b : ℕ) (n : Heap) : Type 0 where
  pub settings : n.settings ≡ h.settings
  pub classes : n.classes ≡ h.classes
  pub bounds : n.bounds ≡ h.bounds
  pub taken : TakesAt h.classes (tables_in h) x.to b (tables_in n)
  pub tables : AreTables h.classes (tables_in n)
  pub kind : n.kind ≡ h.kind
  pub words : CopiesToSlot h.words n.words x b
  pub frames : n.frames ≡ h.frames
  pub proxies : n.proxies ≡ with_place h.proxies x.handle.0 b
  pub free : n.proxies.free ≡ h.proxies.free
  pub handles : AreBelowLimit n.proxies
  pub live : n.live ≡ slice_set (slice_set h.live x.class (slice_index h.live x.class - 1)) x.to (slice_index h.live x.to + 1)
  pub asked : n.asked ≡ h.asked - x.length + x.bytes
  pub all_taken : n.taken ≡ h.taken - 8 * old_words h x + 8 * slice_index h.classes.sizes x.to

-- in the heap h the object's new class has no partly full page, and no page is free; the heap n is unchanged
pub record FindsNoRoom (h : Heap) (x : Change) (n : Heap) : Type 0 where
  pub lacking : LacksRoom (paging_at h) (held_in h) x.to
  pub tables : tables_in n ≡ tables_in h
  pub rest : n ≡ record h { maps = n.maps; lists = n.lists; pool = n.pool }

-- what `enter_class` does to the heap h: it copies the object to the slot at b (`Some`), or finds no free slot (`None`)
abbrev pub EntersClass : Heap → Change → Option ℕ → Heap → Type 0
EntersClass h x None n = FindsNoRoom h x n
EntersClass h x (Some b) n = EntersAt h x b n

-- the most steps of a change of class in the heap h, by the kind, the kept words and the words of the old slot; no steps if refused. In both cases the one
-- step of `must_move` is not counted.
abbrev pub changing_steps : Kind → Heap → Change → Result Resized ResizeFault → ℕ
changing_steps kind h x (Ok done) = 27 + 3 * word_steps kind + copy_steps kind 1 (kept_words x) + slot_steps kind (old_words h x)
changing_steps kind h x (Err e) = 0

-- the exact steps of `enter_class`: taking the slot that the order lists next, and copying the object there
abbrev pub entering_cost : Heap → Change → ℕ
entering_cost h x = steps_to_take (paging_at h) (held_in h) (order_in h) x.to + carrying_cost h.kind x.length x.bytes

-- the exact steps of a change of class, without the one step of `must_move`: those of `enter_class`, and those of freeing or filling the old slot; no steps if
-- refused
abbrev pub changing_cost : Heap → Change → Result Resized ResizeFault → ℕ
changing_cost h x (Ok done) = entering_cost h x + leaving_cost (state_of h) (order_in h) (placed_at (owner_in h) x.place) done.moved
changing_cost h x (Err e) = 0
