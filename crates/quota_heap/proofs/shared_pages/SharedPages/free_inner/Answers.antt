-- The number is released, and the object's slot is left.
use Rattle.std.proofs.Common.{◌*◌, arith, refl, sym, ◌∙◌, ap}
use Rattle.std.specs.Prelude.{◌↔◌, IsSome}
use Rattle.page_slots.specs.Owner.{MustMoveInto}
use Rattle.page_slots.proofs.CallerLemmas.{may_leave, page_there}
use Rattle.proxy_table.specs.Proxies.{Proxies}
use Rattle.cf_base.specs.declared.kind.Kind.TheVariants.{Moving}
use Rattle.quota_heap.specs.Calls.{parts_of}
use Rattle.quota_heap.specs.Layout.{as_owner}
use Rattle.quota_heap.proofs.Facts.{owns, pool_few}
use Rattle.quota_heap.proofs.FreeKinds.{left_account, left_by, number_read}
use Rattle.quota_heap.proofs.FreedObject.{live_some}
use Rattle.quota_heap.proofs.shared_pages.SharedPages.free_inner.Goals as goal

pub must_move-moves-requires-clause-page : goal.must_move-moves-requires-clause-page
must_move-moves-requires-clause-page c = page_there (owns c.requires.shared_pages c.requires.kept) c.requires.object

pub overflow_sub-task : goal.overflow_sub-task
overflow_sub-task c = (let s = live_some c.requires.shared_pages c.requires.kept c.requires.object in omega arith)

pub leave_slot-moved-requires-clause-may : goal.leave_slot-moved-requires-clause-may
leave_slot-moved-requires-clause-may c =
    let k = c.requires.shared_pages in let i = c.requires.kept in
    may_leave (owns k i) c.requires.object (c.args.t * 65536) (number_read k i c.requires.sixteen) Moving c.must_move-moves.result
    c.slot_words-slot_words.ensures.value c.must_move-moves.ensures.value (ap (λ (p : Proxies). p.places) c.release.ensures.places) c.release.ensures.kept tt tt
    (λ b new f. tt)

pub overflow_add-task : goal.overflow_add-task
overflow_add-task c =
    let p = pool_few c.args.self.now c.requires.shared_pages c.args.t c.args.task.now c.requires.kept in
    let f = c.requires.few in
    let l = c.left-left.ensures.len in
    omega arith

pub overflow_sub-task-2 : goal.overflow_sub-task-2
overflow_sub-task-2 c =
    let l = c.leave_slot-moved.ensures in let v = c.must_move-moves.ensures.value in
    let due : IsSome c.leave_slot-moved.result ↔ MustMoveInto (as_owner c.args.self.now c.args.task.now) c.args.x.place c.args.x.class =
    (λ some. v.0 (sym l.moved ∙ some), λ must. l.moved ∙ v.1 must) in
    let new = parts_of (record c.args.self.now { tables = c.leave_slot-moved.new.self; region = c.leave_slot-moved.new.region })
    (record c.args.task.now { lists = c.leave_slot-moved.new.lists; proxies = c.leave_slot-moved.new.proxies }) in
    let left = left_by c.args.self.now c.args.task.now c.args.t c.args.x.class c.args.x.place c.leave_slot-moved.result new
    c.slot_words-slot_words.ensures.value c.release.ensures.places l.left in
    let a = left_account c.requires.shared_pages c.requires.kept c.requires.object c.leave_slot-moved.result due new left l.tables in
    let before = c.left-left.ensures.len in let after = c.left.ensures.len in
    omega arith

pub returns-clause-removed : goal.returns-clause-removed
returns-clause-removed c =
    let l = c.leave_slot-moved.ensures in let v = c.must_move-moves.ensures.value in
    let due : IsSome c.leave_slot-moved.result ↔ MustMoveInto (as_owner c.args.self.now c.args.task.now) c.args.x.place c.args.x.class =
    (λ some. v.0 (sym l.moved ∙ some), λ must. l.moved ∙ v.1 must) in
    let new = parts_of (record c.args.self.now { tables = c.leave_slot-moved.new.self; region = c.leave_slot-moved.new.region })
    (record c.args.task.now { lists = c.leave_slot-moved.new.lists; proxies = c.leave_slot-moved.new.proxies }) in
    let left = left_by c.args.self.now c.args.task.now c.args.t c.args.x.class c.args.x.place c.leave_slot-moved.result new
    c.slot_words-slot_words.ensures.value c.release.ensures.places l.left in
    let a = left_account c.requires.shared_pages c.requires.kept c.requires.object c.leave_slot-moved.result due new left l.tables in
    let before = c.left-left.ensures.len in let after = c.left.ensures.len in
    record {
      rest = record {
        settings = refl;
        classes = l.classes;
        quota = refl;
        tables = l.tables;
        elsewhere = l.others;
        handles = l.handles;
        account = omega arith;
      };
      due = due;
      left = left;
      live = refl;
    }
