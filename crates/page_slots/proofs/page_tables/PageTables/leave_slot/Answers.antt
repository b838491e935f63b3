-- The object that the tables choose moves to the slot, or the slot is cleared.
use Rattle.std.proofs.Common.{◌%◌, ◌^◌, ◌-◌, arith, refl, sym, ◌∙◌, ap, subst}
use Rattle.std.specs.Prelude.{IsSome}
use Rattle.std.specs.FinMap.{get}
use Rattle.virtual_words.proofs.CallerLemmas.{laid_long}
use Rattle.page_slots.proofs.page_tables.PageTables.leave_slot.Goals as goal

pub read-requires-clause-within : goal.read-requires-clause-within
read-requires-clause-within g c =
    let may = c.requires.may.mover c.if-moves.true _ _ c.fill_slot-from.ensures.filled c.fill_slot-from.ensures.kept in
    let in_words = may.header in let long = laid_long g.A.Mapping.kind c.args.blocks.now c.args.region.now c.requires.laid in
    omega arith

pub overflow_sub-other : goal.overflow_sub-other
overflow_sub-other g c =
    let may = c.requires.may.mover c.if-moves.true _ _ c.fill_slot-from.ensures.filled c.fill_slot-from.ensures.kept in
    let first = may.first in let is = c.unpack-header.ensures.number ∙ ap (λ w. w % 2 ^ 32) c.read.ensures.value in
    omega arith

pub move_slot-requires-clause-source : goal.move_slot-requires-clause-source
move_slot-requires-clause-source g c =
    let may = c.requires.may.mover c.if-moves.true _ _ c.fill_slot-from.ensures.filled c.fill_slot-from.ensures.kept in
    let in_words = may.source in let long = laid_long g.A.Mapping.kind c.args.blocks.now c.args.region.now c.requires.laid in
    omega arith

pub move_slot-requires-clause-target : goal.move_slot-requires-clause-target
move_slot-requires-clause-target g c =
    let inside = c.requires.may.inside in let long = laid_long g.A.Mapping.kind c.args.blocks.now c.args.region.now c.requires.laid in
    omega arith

pub move_slot-requires-clause-apart : goal.move_slot-requires-clause-apart
move_slot-requires-clause-apart g c =
    (c.requires.may.mover c.if-moves.true _ _ c.fill_slot-from.ensures.filled c.fill_slot-from.ensures.kept).apart

pub move_slot-requires-clause-whole_source : goal.move_slot-requires-clause-whole_source
move_slot-requires-clause-whole_source g c =
    (c.requires.may.mover c.if-moves.true _ _ c.fill_slot-from.ensures.filled c.fill_slot-from.ensures.kept).whole

pub rebind-requires : goal.rebind-requires
rebind-requires g c =
    let may = c.requires.may.mover c.if-moves.true _ _ c.fill_slot-from.ensures.filled c.fill_slot-from.ensures.kept in
    let is = c.unpack-header.ensures.number ∙ ap (λ w. w % 2 ^ 32) c.read.ensures.value in
    record { live = subst (λ n. IsSome (get c.args.proxies.now.places (n - c.args.s.first))) (sym is) may.live }

pub clear-requires-clause-within : goal.clear-requires-clause-within
clear-requires-clause-within g c =
    let inside = c.requires.may.inside in let long = laid_long g.A.Mapping.kind c.args.blocks.now c.args.region.now c.requires.laid in
    omega arith

pub returns-then-moves-clause-left : goal.returns-then-moves-clause-left
returns-then-moves-clause-left g c =
    let kind = g.A.Mapping.kind in
    record {
      from = c.fill_slot-from.result;
      filled = c.fill_slot-from.ensures.filled;
      number = ap (λ n. n - c.args.s.first) (c.unpack-header.ensures.number ∙ ap (λ w. w % 2 ^ 32) c.read.ensures.value);
      proxies = c.rebind.ensures.places;
      free = c.rebind.ensures.free;
      moves = record {
        long = laid_long kind c.move_slot.new.blocks c.move_slot.new.region c.move_slot.ensures.laid ∙ c.move_slot.ensures.len
            ∙ sym (laid_long kind c.args.blocks.now c.args.region.now c.requires.laid);
        words = c.move_slot.ensures.words;
        frames = c.move_slot.ensures.frames;
      };
    }

pub returns-else-moves-clause-left : goal.returns-else-moves-clause-left
returns-else-moves-clause-left g c =
    let kind = g.A.Mapping.kind in let blocks = c.args.blocks.now in
    record {
      freed = c.drop_slot.ensures.freed;
      proxies = refl;
      words = c.clear.ensures.words;
      long = laid_long kind blocks c.clear.new.region c.clear.ensures.laid ∙ c.clear.ensures.len ∙ sym (laid_long kind blocks c.args.region.now c.requires.laid);
      frames = refl;
    }
