-- The number is released, the object is taken out of the counts, and its slot is left.
use Rattle.std.proofs.Common.{get_or, arith, refl, sym, ap, subst, ◌∙◌}
use Rattle.proxy_table.specs.Proxies.{AreBelowLimit}
use Rattle.paged_heap.specs.declared.open_heap.OpenHeap.{OpenHeap}
use Rattle.paged_heap.specs.Heap.{seen}
use Rattle.paged_heap.proofs.ByKind.{framed_from, laid_same}
use Rattle.paged_heap.proofs.CostLemmas.{leaves_sum}
use Rattle.paged_heap.proofs.FreedObject.{asked_some, live_some, taken_out, taken_some}
use Rattle.paged_heap.proofs.FreeObject.{freed_by, may_leave}
use Rattle.paged_heap.proofs.LeftSlot.{left_by}
use Rattle.paged_heap.proofs.open_heap.OpenHeap.free_object.Goals as goal

pub count_out-requires-clause-live : goal.count_out-requires-clause-live
count_out-requires-clause-live g c =
    let l = live_some c.requires.kept.kept c.requires.object in
    omega arith

pub count_out-requires-clause-asked : goal.count_out-requires-clause-asked
count_out-requires-clause-asked g c =
    let l = asked_some c.requires.kept.kept c.requires.object in
    omega arith

pub count_out-requires-clause-taken : goal.count_out-requires-clause-taken
count_out-requires-clause-taken g c =
    let l = taken_some c.requires.kept.kept c.requires.object in
    omega arith

pub leave_slot-moved-requires-clause-laid : goal.leave_slot-moved-requires-clause-laid
leave_slot-moved-requires-clause-laid g c =
    laid_same g.A.Mapping.kind c.args.self.now c.count_out.new.self (ap (λ (x : OpenHeap). x.blocks) c.count_out.ensures)
    (ap (λ (x : OpenHeap). x.region) c.count_out.ensures) c.requires.kept.laid

pub leave_slot-moved-requires-clause-may : goal.leave_slot-moved-requires-clause-may
leave_slot-moved-requires-clause-may g c =
    let kind = g.A.Mapping.kind in let k = c.requires.kept.kept in let o = c.requires.object in
    let counted = ap (seen kind) c.count_out.ensures
    ∙ ap (λ p. record (taken_out (seen kind c.args.self.now) c.args.h.0 c.args.length c.args.c) { proxies = p }) c.release.ensures.places in
    may_leave k o c.args.moves c.requires.due counted c.slot_words-slot_words.ensures.value (subst AreBelowLimit (sym (ap (λ (x : OpenHeap). x.proxies) c.count_out.ensures)) c.release.ensures.kept)

pub returns : goal.returns
returns g c =
    let kind = g.A.Mapping.kind in let k = c.requires.kept.kept in let o = c.requires.object in
    let counted = ap (seen kind) c.count_out.ensures
    ∙ ap (λ p. record (taken_out (seen kind c.args.self.now) c.args.h.0 c.args.length c.args.c) { proxies = p }) c.release.ensures.places in
    let l = c.leave_slot-moved.ensures in let p = c.leave_slot-moved.new in
    let size = c.slot_words-slot_words.ensures.value in
    let same = ap (λ (x : OpenHeap). get_or x.tables.classes.sizes c.args.c 0) c.count_out.ensures in
    let left = left_by kind c.count_out.new.self p.self p.lists p.proxies (record { blocks = p.blocks; region = p.region }) (size ∙ sym same) l.classes l.left in
    let by = freed_by k o c.args.moves c.requires.due counted l.tables (framed_from kind p.blocks p.region _ l.laid refl refl) l.handles
    c.leave_slot-moved.result l.moved left _ size refl in
    let a = c.release.ensures.steps in
    record {
      step = by.step;
      kept = record { laid = l.laid; kept = by.kept };
      choice = by.choice;
      steps = record { kept = omega (arith, a.kept, l.most.kept); bound = omega (arith, a.bound, l.most.bound) };
      cost = leaves_sum k o size counted _ c.leave_slot-moved.result l.left _ _ _ a l.steps;
    }
