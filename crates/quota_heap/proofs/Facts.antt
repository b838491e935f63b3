-- For most other files here: what follows from the invariants of what all tasks share (`ArePages`) and of one task (`IsTask`) for classes, tables, proxies,
-- counts, free pages, and the slots of the task's objects.
use Rattle.std.proofs.Common.{◌≡◌, ℕ, ◌<◌, ◌≤◌, length, get_or, Some, arith, sym, ◌∙◌, ap, subst}
use Rattle.std.specs.FinMap.{get, len}
use Rattle.cf_base.specs.Classes.{sizes}
use Rattle.cf_base.specs.Settings.{profile_of}
use Rattle.cf_base.specs.declared.kind.Layout.TheVariants.{Words}
use Rattle.page_model.specs.Arrangement.{used_pages}
use Rattle.page_model.specs.Paging.{EveryBoundIsOne, IsPaging, classes, slot_words}
use Rattle.page_model.proofs.CallerLemmas.{len-objects}
use Rattle.page_model.proofs.CallerLemmas.{used_at_one, live_few}
use Rattle.page_slots.specs.Occupying.{class_table}
use Rattle.page_pool.proofs.CallerLemmas.{free_within}
use Rattle.page_slots.specs.Tables.{AreTables}
use Rattle.quota_model.proofs.CallerLemmas.{tasks_at_one, tasks_paged}
use Rattle.size_classes.specs.Table.{ClassTable}
use Rattle.quota_heap.specs.Layout.{ArePages, IsTask, held_of, objects_of, shared_paging, tables_of, as_owner}
use Rattle.quota_heap.specs.declared.shared_pages.SharedPages.{SharedPages}
use Rattle.quota_heap.specs.declared.task.Task.{Task}
use Rattle.page_slots.proofs.CallerLemmas.{held_len, OwnsObjects}

module _ (g : SharedPages) where
  pub paging_ok : IsPaging (shared_paging g)
  paging_ok = tasks_paged (profile_of g.settings) g.settings.page_size

  pub at_one : EveryBoundIsOne (shared_paging g)
  at_one = tasks_at_one (profile_of g.settings)

  module _ (k : ArePages g) where
    pub table_is : class_table (shared_paging g) ≡ g.tables.classes
    table_is = sym k.table

    pub sizes_are : g.tables.classes.sizes ≡ sizes g.settings.page_words Words
    sizes_are = ap (λ (t : ClassTable). t.sizes) k.table

    pub size_is : (c : ℕ) → get_or g.tables.classes.sizes c 0 ≡ slot_words (shared_paging g) c
    size_is c = ap (λ xs. get_or xs c 0) sizes_are

module _ (g : SharedPages) (k : ArePages g) (t : ℕ) (x : Task) (i : IsTask g t x) where
  pub tables_ok : AreTables g.tables.classes (tables_of g x)
  tables_ok = subst (λ c. AreTables c (tables_of g x)) (table_is g k) i.serve.tables

  pub few_classes : classes (shared_paging g) ≤ 67
  few_classes = i.serve.tables.table.are_sizes.few

  pub number_few : (q a : ℕ) → get x.proxies.places q ≡ Some a → q < g.settings.proxies
  number_few q a e = (let lt = i.handles.below q a e in let s = i.numbers in omega arith)

  pub number_small : (q a : ℕ) → get x.proxies.places q ≡ Some a → q < 65536
  number_small q a e = (let lt = number_few q a e in let few = g.settings.few_proxies in omega arith)

  pub objects_len : len (objects_of g x) ≡ len x.proxies.places
  objects_len = len-objects (held_of g x) ∙ held_len (as_owner g x)

  pub live_room : (c : ℕ) → c < classes (shared_paging g) → get_or x.live c 0 ≤ 65536
  live_room c lt =
      let e = i.counted c lt in let l = live_few (shared_paging g) (held_of g x) c in let h = held_len (as_owner g x) in let f = i.handles.few in let n = i.numbers in
      let few = g.settings.few_proxies in
      omega arith

  pub pool_few : length g.tables.pool.free ≤ 4096
  pool_few = (
      let w = free_within g.tables.pool.pages g.tables.pool.free i.serve.tables.pool in
      let p = i.serve.pages in let few = g.settings.few_pages in
      omega arith)

  pub used_is : used_pages (shared_paging g) (held_of g x) ≡ x.pages
  used_is = used_at_one (shared_paging g) (paging_ok g) (at_one g) (held_of g x) i.sound ∙ sym i.pages

-- a task owns its objects
pub owns : {g : SharedPages} → ArePages g → {t : ℕ} {x : Task} → IsTask g t x → OwnsObjects (as_owner g x)
owns {g} k i = record {
  table = table_is g k;
  paged = paging_ok g;
  serve = i.serve;
  sound = i.sound;
  occupied = i.occupied;
  long = k.words_long;
  bounds = λ c lt. sym (at_one g c lt);
}
