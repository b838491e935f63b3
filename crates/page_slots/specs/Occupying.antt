-- The class table of a heap's pages, when tables fit the pages and classes of a heap, and when objects are at their used slots.
use Rattle.std.specs.Prelude.{◌≡◌, ℕ, Some}
use Rattle.std.specs.FinMap.{get}
use Rattle.size_classes.specs.Table.{ClassTable}
use Rattle.page_model.specs.Held.{Held, Placed}
use Rattle.page_model.specs.Paging.{Paging, page_of, address_of}
use Rattle.page_model.specs.Arrangement.{class_at, objects_on}
use Rattle.page_slots.specs.Tables.{Tables, AreTables, IsOf, IsUsed, NoneForeign, slot_at, slots_on, used_in}

-- the page size and the slot sizes of p as a class table
abbrev pub class_table : Paging → ClassTable
class_table p = record { page_words = p.page_words; sizes = p.sizes }

-- the tables t keep their rules, and have the pages and classes of p; some pages may be foreign, used by another owner
pub record FitPagesShared (p : Paging) (t : Tables) : Type 0 where
  pub tables : AreTables (class_table p) t
  pub pages : t.pool.pages ≡ p.pages

-- the tables t have the pages and classes of p, and no page is foreign
pub record FitPages (p : Paging) (t : Tables) : Type 0 where
  pub part : FitPagesShared p t
  pub whole : NoneForeign t

-- The objects m are at the used slots of the tables t: each object is at a used slot of its class, and each used slot has an object. So a page of a class has
-- as many objects of that class as used slots.
pub record Occupies (p : Paging) (m : Held) (t : Tables) : Type 0 where
  pub stands : (h : ℕ) (x : Placed) → get m h ≡ Some x → IsUsed t (class_at p x) (page_of p x.place) (slot_at (class_table p) (class_at p x) x.place)
  pub filled : (c page slot : ℕ) → IsUsed t c page slot → (h : ℕ) × (x : Placed) × (get m h ≡ Some x) × (class_at p x ≡ c)
      × (x.place ≡ address_of p c page slot)
  pub counted : (c page : ℕ) → IsOf t c page → objects_on p m c page ≡ used_in (slots_on t page)
