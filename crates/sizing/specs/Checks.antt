-- What the test of a certificate is given, the tables and the entries of needs that it computes, and the conditions of a point, one list of the certificate, as
-- it tests them; and a heap's classes with other pages (`with_pages`).
use Rattle.std.specs.Prelude.{◌≡◌, ℕ, ◌-◌, ◌<◌, ◌≤◌, ◌+◌, Bool, IsTrue, List, drop, length, map, min, slice_index, slice_index_or}
use Rattle.page_model.specs.Paging.{Paging, classes}
use Rattle.quota_model.specs.Admission.{declared, declared_in_all}
use Rattle.quota_model.specs.declared.results.Need.{Need}
use Rattle.sizing.specs.Certificates.{HoldsCopies, IsPoint, KeepsResized, LeadsInto, in_both, kept_count, mode_count}
use Rattle.sizing.specs.Demands.{count_in}
use Rattle.sizing.specs.declared.points.HeapClasses.{HeapClasses}
use Rattle.sizing.specs.declared.certificate.ModeNeeds.{ModeNeeds}
use Rattle.sizing.specs.declared.certificate.PointPages.{PointPages}
use Rattle.sizing.specs.declared.shared.TwoModes.{TwoModes}

-- the needs of each mode
abbrev pub needs_of : List ModeNeeds → List (List Need)
needs_of modes = map (λ (m : ModeNeeds). m.needs) modes

-- the mode has at most 65,536 objects, the most that a heap may have
abbrev pub HasFew : ModeNeeds → Type 0
HasFew mode = declared_in_all mode.needs ≤ 65536

-- the same classes and bounds with n pages
abbrev pub with_pages : ℕ → Paging → Paging
with_pages n p = record p { pages = n }

-- ---- No public clause cites what follows.

-- the pages and classes of a heap with this number of pages
abbrev pub paging_with : ℕ → HeapClasses → Paging
paging_with pages heap = record { pages = pages; page_words = heap.page_words; sizes = heap.sizes.now; bounds = heap.bounds.now }

-- the tables have by class how many objects `needs` declare (`before`), how many `others` declare (`after`), and how many both declare, of each length the
-- smaller number (`kept`)
pub record AreCounts (p : Paging) (needs others : List Need) (t : TwoModes) : Type 0 where
  pub before : (c : ℕ) → c < classes p → slice_index t.before c ≡ count_in p needs c
  pub after : (c : ℕ) → c < classes p → slice_index t.after c ≡ count_in p others c
  pub kept : (c : ℕ) → c < classes p → slice_index t.kept c ≡ count_in p (in_both needs others) c

-- the point x allows for resizes into mode j: those within a class (`within`), and those into another class (`copies`)
pub record AllowsResizes (p : Paging) (points : List PointPages) (kept before after : ℕ → ℕ) (x : PointPages) (j : ℕ) : Type 0 where
  pub within : KeepsResized p points kept before after x j
  pub copies : HoldsCopies p kept before after x

-- x leads to a point of mode j, also by a resize if the program `resizes`
pub record LeadsIntoMode (p : Paging) (modes : List ModeNeeds) (points : List PointPages) (resizes : Bool) (x : PointPages) (j : ℕ) : Type 0 where
  pub next : LeadsInto p points (kept_count p (needs_of modes) x.mode j) x j
  pub resized : IsTrue resizes → AllowsResizes p points (kept_count p (needs_of modes) x.mode j) (mode_count p (needs_of modes) x.mode) (mode_count p (needs_of modes) j) x j

-- the conditions of a point, also those for resizes if the program `resizes`
pub record IsRow (p : Paging) (modes : List ModeNeeds) (points : List PointPages) (resizes : Bool) (x : PointPages) : Type 0 where
  pub point : IsPoint p (needs_of modes) points x
  pub resized : IsTrue resizes → (j : ℕ) → j < length modes
      → AllowsResizes p points (kept_count p (needs_of modes) x.mode j) (mode_count p (needs_of modes) x.mode) (mode_count p (needs_of modes) j) x j

-- entry i of the needs; beyond the last, an entry with count 0
abbrev pub need_at : List Need → ℕ → Need
need_at needs i = slice_index_or needs i (record { bytes = 0; count = 0 })

-- entry i of the objects that two lists of needs both declare (`in_both`)
abbrev pub common_entry : List Need → List Need → ℕ → Need
common_entry needs others i = record {
  bytes = (need_at needs i).bytes;
  count = min (need_at needs i).count (declared others (need_at needs i).bytes - declared (drop (i + 1) needs) (need_at needs i).bytes);
}
