-- For the count `pages` of a task: if it changes by the number of pages that leave or enter the pool, it stays the number of pages that the task's objects
-- need.
use Rattle.std.proofs.Common.{◌≡◌, ℕ, ◌+◌, ◌<◌, length, arith}
use Rattle.page_model.specs.Arrangement.{IsSound, pages_needed, used_pages}
use Rattle.page_model.specs.Held.{Held, objects}
use Rattle.page_model.specs.Paging.{classes}
use Rattle.page_model.proofs.CallerLemmas.{used_at_one}
use Rattle.page_slots.specs.Occupying.{Occupies, FitPagesShared}
use Rattle.page_slots.specs.Tables.{Tables}
use Rattle.quota_heap.specs.Layout.{ArePages, IsTask, held_of, shared_paging, tables_of}
use Rattle.quota_heap.specs.declared.shared_pages.SharedPages.{SharedPages}
use Rattle.quota_heap.specs.declared.task.Task.{Task}
use Rattle.quota_heap.proofs.Facts.{at_one, paging_ok, used_is}
use Rattle.quota_heap.proofs.PageAccount.{Accounts, used_accounts}

module _ (g : SharedPages) (k : ArePages g) (t : ℕ) (x : Task) (i : IsTask g t x) (c : ℕ) (lt : c < classes (shared_paging g)) (m : Held) (new : Tables)
    (serve : FitPagesShared (shared_paging g) new) (occupied : Occupies (shared_paging g) m new) (a : Accounts (tables_of g x) new c) where
  -- the pages of the task and those of the pool sum to the same as before
  pub used_after : used_pages (shared_paging g) m + length new.pool.free ≡ x.pages + length g.tables.pool.free
  used_after =
      let e = used_accounts (shared_paging g) (paging_ok g) (held_of g x) m (tables_of g x) new i.serve i.occupied serve occupied c lt a in
      let f = used_is g k t x i in
      omega arith

  -- if `pages` and the pool's pages have that sum, `pages` is the number of pages that the task's objects m need
  pub pages_after : IsSound (shared_paging g) m → (pages : ℕ) → pages + length new.pool.free ≡ x.pages + length g.tables.pool.free
      → pages ≡ pages_needed (shared_paging g) (objects m)
  pages_after s pages account =
      let e = used_after in
      let f = used_at_one (shared_paging g) (paging_ok g) (at_one g) m s in
      omega arith
