use Rattle.std.proofs.Common.{sym, ap, subst}
use Rattle.std.specs.Prelude.{if◌then◌else◌}
use Rattle.step_ledger.specs.Counting.{RoseBy}
use Rattle.page_slots.specs.Tables.{IsUsed, page_at, slot_at}
use Rattle.slice_model.specs.State.{Idle}
use Rattle.sliced_heap.specs.Heap.{Heap, sliced_seen}
use Rattle.sliced_heap.specs.Layout.{sliced_tables_in}
use Rattle.sliced_heap.specs.Steps.{FillsSlot, IsFilled, StaysVacant}
use Rattle.sliced_heap.proofs.EndLemmas.{filled_ends, filled_follows, filled_takes, idle_at, slot_used, vacant_takes}
use Rattle.sliced_heap.proofs.Facts.{only_tables}
use Rattle.sliced_heap.proofs.open_heap.OpenHeap.end.Goals as goal

pub returns-then-fill-clause-ended : goal.returns-then-fill-clause-ended
returns-then-fill-clause-ended c =
    filled_ends (sliced_seen c.args.self.now) c.requires.kept c.args.k c.requires.job (sliced_seen c.fill.new.self)
    (subst (λ b. FillsSlot (sliced_seen c.args.self.now) c.args.k b (sliced_seen c.fill.new.self)) c.if-fill.true c.fill.ensures.filled)

pub returns-then-fill-clause-ordered : goal.returns-then-fill-clause-ordered
returns-then-fill-clause-ordered c =
    filled_follows (sliced_seen c.args.self.now) c.requires.kept c.args.k c.requires.job (sliced_seen c.fill.new.self)
    (subst (λ b. FillsSlot (sliced_seen c.args.self.now) c.args.k b (sliced_seen c.fill.new.self)) c.if-fill.true c.fill.ensures.filled)

pub drop_slot-requires-clause-used : goal.drop_slot-requires-clause-used
drop_slot-requires-clause-used c =
    let v : StaysVacant (sliced_seen c.args.self.now) c.args.k (sliced_seen c.fill.new.self) =
    subst (λ b. FillsSlot (sliced_seen c.args.self.now) c.args.k b (sliced_seen c.fill.new.self)) c.if-fill.false c.fill.ensures.filled in
    subst (λ (x : Heap). IsUsed (sliced_tables_in x) c.args.k.class (page_at x.classes c.args.k.address) (slot_at x.classes c.args.k.class c.args.k.address))
    (sym v.same)
    (slot_used (sliced_seen c.args.self.now) c.requires.kept c.args.k c.requires.job)

pub returns-clause-ended : goal.returns-clause-ended
returns-clause-ended c =
    let v : StaysVacant (sliced_seen c.args.self.now) c.args.k (sliced_seen c.fill.new.self) =
    subst (λ b. FillsSlot (sliced_seen c.args.self.now) c.args.k b (sliced_seen c.fill.new.self)) c.if-fill.false c.fill.ensures.filled in
    (idle_at (sliced_seen c.args.self.now) c.requires.kept c.args.k c.requires.job v.stays c.requires.zeros (sliced_seen c.fill.new.self) _ v.same
    (ap (λ (x : Heap). record x { job = Idle }) (only_tables c.fill.new.self c.drop_slot.new.self c.drop_slot.new.lists c.drop_slot.ensures.classes))
    c.drop_slot.ensures.freed c.drop_slot.ensures.kept).1

pub returns-clause-ordered : goal.returns-clause-ordered
returns-clause-ordered c =
    let v : StaysVacant (sliced_seen c.args.self.now) c.args.k (sliced_seen c.fill.new.self) =
    subst (λ b. FillsSlot (sliced_seen c.args.self.now) c.args.k b (sliced_seen c.fill.new.self)) c.if-fill.false c.fill.ensures.filled in
    (idle_at (sliced_seen c.args.self.now) c.requires.kept c.args.k c.requires.job v.stays c.requires.zeros (sliced_seen c.fill.new.self) _ v.same
    (ap (λ (x : Heap). record x { job = Idle }) (only_tables c.fill.new.self c.drop_slot.new.self c.drop_slot.new.lists c.drop_slot.ensures.classes))
    c.drop_slot.ensures.freed c.drop_slot.ensures.kept).2

pub returns-clause-kept : goal.returns-clause-kept
returns-clause-kept c =
    let v : StaysVacant (sliced_seen c.args.self.now) c.args.k (sliced_seen c.fill.new.self) =
    subst (λ b. FillsSlot (sliced_seen c.args.self.now) c.args.k b (sliced_seen c.fill.new.self)) c.if-fill.false c.fill.ensures.filled in
    (idle_at (sliced_seen c.args.self.now) c.requires.kept c.args.k c.requires.job v.stays c.requires.zeros (sliced_seen c.fill.new.self) _ v.same
    (ap (λ (x : Heap). record x { job = Idle }) (only_tables c.fill.new.self c.drop_slot.new.self c.drop_slot.new.lists c.drop_slot.ensures.classes))
    c.drop_slot.ensures.freed c.drop_slot.ensures.kept).0

pub returns-then-fill-clause-steps : goal.returns-then-fill-clause-steps
returns-then-fill-clause-steps c =
    let v : IsFilled (sliced_seen c.args.self.now) c.args.k (sliced_seen c.fill.new.self) =
    subst (λ b. FillsSlot (sliced_seen c.args.self.now) c.args.k b (sliced_seen c.fill.new.self)) c.if-fill.true c.fill.ensures.filled in
    filled_takes (sliced_seen c.args.self.now) c.requires.kept c.args.k c.requires.job c.args.steps.now c.fill.new.steps v.must
    (subst (λ b. RoseBy c.args.steps.now c.fill.new.steps (if b then 6 else 1)) c.if-fill.true c.fill.ensures.steps)

pub returns-clause-steps : goal.returns-clause-steps
returns-clause-steps c =
    let v : StaysVacant (sliced_seen c.args.self.now) c.args.k (sliced_seen c.fill.new.self) =
    subst (λ b. FillsSlot (sliced_seen c.args.self.now) c.args.k b (sliced_seen c.fill.new.self)) c.if-fill.false c.fill.ensures.filled in
    vacant_takes (sliced_seen c.args.self.now) c.requires.kept c.args.k c.requires.job c.args.steps.now c.fill.new.steps c.drop_slot.new.steps v.stays
    (sliced_seen c.fill.new.self) v.same
    (subst (λ b. RoseBy c.args.steps.now c.fill.new.steps (if b then 6 else 1)) c.if-fill.false c.fill.ensures.steps) c.drop_slot.ensures.steps
