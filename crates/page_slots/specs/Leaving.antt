-- What `leave_slot` requires, what it does with a slot whose object is freed or has moved away, and its steps. An owner is a heap or a task; `old` are its
-- parts before, `new` those after.
use Rattle.std.specs.Prelude.{◌≡◌, ℕ, ◌+◌, ◌-◌, ◌/◌, ◌%◌, ◌^◌, ◌<◌, ◌≤◌, Bool, IsSome, IsTrue, List, Option, None, Some, length, slice_index}
use Rattle.std.specs.FinMap.{get}
use Rattle.block_table.specs.Table.{Table}
use Rattle.cf_base.specs.declared.results.Handle.{Handle}
use Rattle.cf_base.specs.declared.kind.Kind.{Kind}
use Rattle.cf_base.specs.Exchanges.{exchanged}
use Rattle.class_lists.specs.PageLists.{PageLists, pages_in}
use Rattle.class_lists.specs.declared.Which.TheVariants.{NotFull}
use Rattle.page_model.specs.Image.{Clears, IsDisjoint, MovesWords}
use Rattle.page_model.specs.Order.{word_steps}
use Rattle.proxy_table.specs.Proxies.{AreBelowLimit, Proxies, with_place}
use Rattle.size_classes.specs.Table.{ClassTable}
use Rattle.virtual_words.specs.Words.{IsWhole, frames_of, run_steps, slot_steps, words_of}
use Rattle.page_slots.specs.PageTables.{tables_with}
use Rattle.page_slots.specs.Release.{FillsFrom, Vacates, drop_slot_steps, fill_slot_steps}
use Rattle.page_slots.specs.Tables.{AreTables, IsUsed, Tables, page_at, slot_at}
use Rattle.page_slots.specs.declared.leave.LeftSlot.{LeftSlot}
use Rattle.page_slots.specs.declared.page_tables.PageTables.{PageTables}

-- The parts of an owner that change when a slot is left, with the class table: the tables as the owner sees them, its proxies, the words as its objects see
-- them, and the physical block of each virtual block. Without a block table `frames` is empty.
pub record Parts : Type 0 where
  pub classes : ClassTable
  pub tables : Tables
  pub proxies : Proxies
  pub words : List ℕ
  pub frames : List ℕ

-- where the words of an owner are: a region, and a block table if the kind has one
pub record Memory : Type 0 where
  pub blocks : Option Table
  pub region : List ℕ

-- the parts of an owner with these lists and proxies, whose words are in this memory
abbrev pub parts : Kind → PageTables → PageLists → Proxies → Memory → Parts
parts kind t lists proxies m = record {
  classes = t.classes;
  tables = tables_with t lists;
  proxies = proxies;
  words = words_of kind m.blocks m.region;
  frames = frames_of kind m.blocks;
}

-- the number of the object whose header is the word `from`
abbrev pub number_at : Parts → LeftSlot → ℕ → ℕ
number_at w s from = slice_index w.words from % 2 ^ 32 - s.first

-- the object whose header is the word `from` can move to the slot
pub record MayMove (kind : Kind) (w : Parts) (s : LeftSlot) (from : ℕ) : Type 0 where
  pub header : from < length w.words
  pub source : from + s.words ≤ length w.words
  pub apart : IsDisjoint from s.words s.place s.words
  pub whole : IsWhole kind from
  pub first : s.first ≤ slice_index w.words from % 2 ^ 32
  pub live : IsSome (get w.proxies.places (number_at w s from))

-- What `leave_slot` requires of an owner's parts and the slot: the tables and proxies keep their rules. The slot is used, has the words of its class, lies
-- in the region, and with a block table is whole blocks. If another object must move there (`moves`), the one that the tables choose can.
pub record MayLeave (kind : Kind) (w : Parts) (s : LeftSlot) (moves : Bool) : Type 0 where
  pub tables : AreTables w.classes w.tables
  pub used : IsUsed w.tables s.class (page_at w.classes s.place) (slot_at w.classes s.class s.place)
  pub class : s.class < length w.classes.sizes
  pub words : s.words ≡ slice_index w.classes.sizes s.class
  pub inside : s.place + s.words ≤ length w.words
  pub handles : AreBelowLimit w.proxies
  pub whole : IsWhole kind s.place
  pub whole_words : IsWhole kind s.words
  pub some : IsTrue moves → 1 ≤ length (pages_in w.tables.lists s.class NotFull)
  pub mover : IsTrue moves → (from : ℕ) (new : Tables) → FillsFrom w.classes w.tables s.class from new → AreTables w.classes new → MayMove kind w s from

-- an object moved from the slot at b to the slot at a, both of n words: its words are copied to a, and those at b become zeros; with a block table the two
-- slots exchange their blocks
pub record MovesSlot (old new : Parts) (b a n : ℕ) : Type 0 where
  pub long : length new.words ≡ length old.words
  pub words : MovesWords old.words new.words (record { from = b; count = n }) a
  pub frames : new.frames ≡ exchanged old.frames (b / 4) (a / 4) (n / 4)

-- the slot was cleared and became free
pub record LeavesAlone (old : Parts) (s : LeftSlot) (new : Parts) : Type 0 where
  pub freed : Vacates old.tables s.class (page_at old.classes s.place) (slot_at old.classes s.class s.place) new.tables
  pub proxies : new.proxies ≡ old.proxies
  pub words : Clears old.words new.words (record { from = s.place; count = s.words })
  pub long : length new.words ≡ length old.words
  pub frames : new.frames ≡ old.frames

-- object q moved to the slot, from the slot at `from`, which became free
pub record LeavesFilled (old : Parts) (s : LeftSlot) (q : ℕ) (new : Parts) : Type 0 where
  pub from : ℕ
  pub filled : FillsFrom old.classes old.tables s.class from new.tables
  pub number : q ≡ number_at old s from
  pub proxies : new.proxies ≡ with_place old.proxies q s.place
  pub free : new.proxies.free ≡ old.proxies.free
  pub moves : MovesSlot old new from s.place s.words

-- what `leave_slot` does, by its result: the object that moves to the slot, if one does
abbrev pub Leaves : Parts → LeftSlot → Option Handle → Parts → Type 0
Leaves old s None new = LeavesAlone old s new
Leaves old s (Some q) new = LeavesFilled old s q.0 new

-- the exact steps of `leave_slot`, by its result
abbrev pub leaving_steps : Kind → Parts → LeftSlot → Option Handle → ℕ
leaving_steps kind w s None = run_steps kind s.place s.words + drop_slot_steps w.tables (page_at w.classes s.place)
leaving_steps kind w s (Some q) = fill_slot_steps w.tables s.class + word_steps kind + (slot_steps kind s.words + 1)
