-- The record that definitions and proofs use for an open sliced heap: the fields of `OpenHeap` and of its tables, with the pending job as the model has it.
use Rattle.std.specs.Prelude.{ℕ, Bool, List}
use Rattle.cf_base.specs.declared.settings.Settings.{Settings}
use Rattle.size_classes.specs.Table.{ClassTable}
use Rattle.class_lists.specs.PageLists.{PageLists}
use Rattle.page_pool.specs.Pool.{Pool}
use Rattle.proxy_table.specs.Proxies.{Proxies}
use Rattle.slice_model.specs.State.{Job, Idle, Clear, Move}
use Rattle.sliced_heap.specs.declared.open_heap.OpenHeap.{OpenHeap}
use Rattle.sliced_heap.specs.declared.open_heap.Pending.{Pending}
use Rattle.sliced_heap.specs.declared.open_heap.Pending.TheVariants as pending

-- An open heap: its settings; the most words of a slice; the size classes; the number of live objects of each class; the pages that these objects need; their
-- bytes, and those of their slots; the words of the region; the used slots of each page; the page lists of each class; the free pages; the addresses by number;
-- and the pending job.
pub record Heap : Type 0 where
  pub settings : Settings
  pub quantum : ℕ
  pub classes : ClassTable
  pub live : List ℕ
  pub needed : ℕ
  pub asked : ℕ
  pub taken : ℕ
  pub words : List ℕ
  pub maps : List (List Bool)
  pub lists : PageLists
  pub pool : Pool
  pub proxies : Proxies
  pub job : Job

-- the pending job of the code as the model's job
abbrev pub job_of : Pending → Job
job_of pending.Idle = Idle
job_of (pending.Clear k) = Clear k
job_of (pending.Move h k) = Move h.0 k

-- the open heap of the code as the record that the definitions use
abbrev pub sliced_seen : OpenHeap → Heap
sliced_seen h = record {
  settings = h.settings;
  quantum = h.quantum;
  classes = h.tables.classes;
  live = h.live;
  needed = h.needed;
  asked = h.asked;
  taken = h.taken;
  words = h.region;
  maps = h.tables.maps.pages;
  lists = h.lists;
  pool = h.tables.pool;
  proxies = h.proxies;
  job = job_of h.job;
}
