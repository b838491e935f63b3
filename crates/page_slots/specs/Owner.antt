-- The objects of one owner of pages, a heap or a task of the heap of tasks, at their addresses, and when one must move into a slot that is left. No clause of a
-- public function cites this module.
use Rattle.std.specs.Prelude.{◌≡◌, ℕ, ◌+◌, ◌<◌, ◌≤◌, List, Some, length}
use Rattle.std.specs.Ordering.{nat_cmp}
use Rattle.std.specs.FinMap.{FinMap, get}
use Rattle.class_lists.specs.PageLists.{pages_in}
use Rattle.class_lists.specs.declared.Which.TheVariants.{NotFull}
use Rattle.page_model.specs.Bytes.{bytes_at, held_at}
use Rattle.page_model.specs.Held.{Held, Placed}
use Rattle.page_model.specs.Paging.{Paging, class_for, classes}
use Rattle.size_classes.specs.Table.{ClassTable}
use Rattle.page_slots.specs.Release.{MovesObject}
use Rattle.page_slots.specs.Tables.{Tables, page_at, slots_on}

-- An owner: the pages and classes, and the class table; by class how many pages may be partly full; the words that objects see; the addresses of the owner's
-- objects by number; and the tables as the owner sees them.
pub record Owner : Type 0 where
  pub paging : Paging
  pub classes : ClassTable
  pub bound : ℕ → ℕ
  pub words : List ℕ
  pub places : FinMap nat_cmp ℕ
  pub tables : Tables

-- the object at the address a, with the bytes that its header and its words hold
abbrev pub placed_at : Owner → ℕ → Placed
placed_at w a = record { place = a; bytes = bytes_at w.words a }

-- the owner's objects by number
abbrev pub owned : Owner → Held
owned w = held_at w.words w.places

-- the live object of number q has the address `place` and `bytes` bytes, and c is its class
pub record IsObjectAt (w : Owner) (q place bytes c : ℕ) : Type 0 where
  pub known : get w.places q ≡ Some place
  pub long : length (bytes_at w.words place) ≡ bytes
  pub class : class_for w.paging bytes ≡ c
  pub in_range : c < classes w.paging

-- object q has the address `place`, and has `count` bytes from byte `from` on
pub record HoldsBytesAt (w : Owner) (q from count place : ℕ) : Type 0 where
  pub found : get w.places q ≡ Some place
  pub within : from + count ≤ length (bytes_at w.words place)

-- if the object of class c at the address `place` leaves its slot, another object must move there
abbrev pub MustMoveInto : Owner → ℕ → ℕ → Type 0
MustMoveInto w place c = MovesObject (slots_on w.tables (page_at w.classes place)) (length (pages_in w.tables.lists c NotFull)) (w.bound c)
