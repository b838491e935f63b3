-- The object enters its new class, and its old slot is left.
use Rattle.std.proofs.Common.{get_or, arith, refl, rules, sym, ◌∙◌, ap, subst}
use Rattle.std.specs.Prelude.{◌↔◌, IsTrue}
use Rattle.page_slots.proofs.CallerLemmas.{page_there}
use Rattle.page_slots.specs.Owner.{MustMoveInto}
use Rattle.size_classes.specs.Table.{ClassTable}
use Rattle.step_ledger.proofs.CallerLemmas.{rose_both}
use Rattle.step_ledger.specs.Counting.{RoseBy}
use Rattle.virtual_words.specs.Words.{slot_steps}
use Rattle.paged_heap.specs.Heap.{seen}
use Rattle.paged_heap.specs.Layout.{IsValid, owner_in}
use Rattle.paged_heap.proofs.ByKind.{framed_from}
use Rattle.paged_heap.proofs.LayoutFacts.{owns}
use Rattle.paged_heap.proofs.LeftSlot.{left_by}
use Rattle.paged_heap.proofs.ResizeChange.{changed_by, may_leave}
use Rattle.paged_heap.proofs.ResizeCosts.{left_sum}
use Rattle.paged_heap.proofs.ResizeEnter.{refused, unchanged}
use Rattle.paged_heap.proofs.open_heap.OpenHeap.resize_to_class.Goals as goal

pub must_move-moves-requires-clause-page : goal.must_move-moves-requires-clause-page
must_move-moves-requires-clause-page g c = page_there (owns c.requires.kept.kept) c.requires.change.object

pub returns-in_default : goal.returns-in_default
returns-in_default g c =
    let kind = g.A.Mapping.kind in let h = seen kind c.args.self.now in let n = seen kind c.enter_class.new.self in
    let a = c.must_move-moves.ensures.steps in let same = c.in_default.ensures.refused refl in
    record {
      step = refused h c.requires.kept.kept c.args.x c.requires.change n c.in_default.ensures.entered;
      kept = record {
        laid = c.in_default.ensures.laid;
        kept = subst IsValid (sym (unchanged h c.args.x n c.in_default.ensures.entered)) c.requires.kept.kept;
      };
      cause = refl;
      choice = search rules;
      steps = record { kept = omega (arith, a.kept, same); bound = omega (arith, a.bound, same) };
      cost = subst (λ s. RoseBy c.args.steps.now s 1) (sym same) a;
    }

pub leave_slot-moved-requires-clause-may : goal.leave_slot-moved-requires-clause-may
leave_slot-moved-requires-clause-may g c =
    let due : IsTrue c.must_move-moves.result ↔ MustMoveInto (owner_in (seen g.A.Mapping.kind c.args.self.now)) c.args.x.place c.args.x.class = search rules in
    may_leave c.requires.kept.kept c.requires.change c.in-Some.ensures.entered c.must_move-moves.result due c.slot_words-old_slot_words.ensures.value

pub returns : goal.returns
returns g c =
    let kind = g.A.Mapping.kind in let k = c.requires.kept.kept in let is = c.requires.change in let en = c.in-Some.ensures.entered in
    let due : IsTrue c.must_move-moves.result ↔ MustMoveInto (owner_in (seen kind c.args.self.now)) c.args.x.place c.args.x.class = search rules in
    let l = c.leave_slot-moved.ensures in let p = c.leave_slot-moved.new in
    let size = c.slot_words-old_slot_words.ensures.value in
    let same = ap (λ (t : ClassTable). get_or t.sizes c.args.x.class 0) en.classes in
    let left = left_by kind c.enter_class.new.self p.self p.lists p.proxies (record { blocks = p.blocks; region = p.region }) (size ∙ sym same) l.classes l.left in
    let by = changed_by k is en c.must_move-moves.result due l.tables (framed_from kind p.blocks p.region _ l.laid refl refl) l.handles
    c.leave_slot-moved.result l.moved left _ size c.slot_words-slot_words.ensures.value refl in
    let most = ap (slot_steps kind) size in
    let m = c.must_move-moves.ensures.steps in let a = c.enter_class.ensures.steps in
    record {
      step = by.step;
      kept = record { laid = l.laid; kept = by.kept };
      cause = search rules;
      choice = by.choice;
      steps = record { kept = omega (arith, m.kept, a.kept, l.most.kept); bound = omega (arith, most, m.bound, a.bound, l.most.bound) };
      cost = rose_both _ _ _ _ _ m (left_sum k is en size _ c.leave_slot-moved.result l.left _ _ _ (c.in-Some.ensures.cost refl) l.steps);
    }
