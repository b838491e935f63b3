use Rattle.std.proofs.Common.{arith}
use Rattle.page_slots.specs.PageTables.{tables_with}
use Rattle.quota_heap.proofs.Facts.{live_room}
use Rattle.quota_heap.proofs.MallocLemmas.{taken_inside}
use Rattle.quota_heap.proofs.Facts.{pool_few}
use Rattle.quota_heap.proofs.shared_pages.SharedPages.malloc_inner.Goals as goal

pub overflow_add-task : goal.overflow_add-task
overflow_add-task c =
    let p = pool_few c.args.self.now c.requires.shared_pages c.args.t c.args.task.now c.requires.kept in
    let f = c.requires.few in
    let l = c.left-left.ensures.len in
    omega arith

pub write-requires : goal.write-requires
write-requires c =
    let new = tables_with c.take_slot.new.self c.take_slot.new.lists in
    record {
      within = taken_inside c.args.self.now c.requires.shared_pages c.args.t c.args.task.now c.requires.kept c.args.c c.requires.in_range c.in-Some.place new
          c.in-Some.ensures.taken c.take_slot.ensures.kept c.args.bytes c.requires.class;
    }

pub overflow_add-task-2 : goal.overflow_add-task-2
overflow_add-task-2 c = (
    let l = live_room c.args.self.now c.requires.shared_pages c.args.t c.args.task.now c.requires.kept c.args.c c.requires.in_range in
    omega arith)
