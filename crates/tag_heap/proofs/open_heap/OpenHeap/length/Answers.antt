use Rattle.std.proofs.Common.{◌+◌, ◌/◌, ◌^◌, sym, ap, ◌∙◌}
use Rattle.std.specs.Prelude.{option_map, Some, length}
use Rattle.page_model.specs.Held.{Placed}
use Rattle.page_model.proofs.CallerLemmas.{bytes_long}
use Rattle.tag_heap.proofs.Preserved.{has_place, no_place, used_at}
use Rattle.tag_heap.proofs.open_heap.OpenHeap.length.Goals as goal

pub tag_of-requires : goal.tag_of-requires
tag_of-requires g c = record { used = used_at _ c.self.invariant c.args.h.0 c.in-Some.place (sym c.in-Some.ensures.found) }

pub returns-in-Some-clause-value : goal.returns-in-Some-clause-value
returns-in-Some-clause-value g c = rw (← c.self.view_is) (
    ap Some (c.unpack.ensures.length ∙ ap (λ w. w / 2 ^ 32) c.tag_of.ensures.value ∙ sym (bytes_long c.self.inside.blocks.words (c.in-Some.place + 1)))
    ∙ sym (ap (option_map (λ (x : Placed). length x.bytes)) (has_place _ c.self.invariant c.args.h.0 c.in-Some.place (sym c.in-Some.ensures.found))))

pub returns-in-None-clause-value : goal.returns-in-None-clause-value
returns-in-None-clause-value g c = rw (← c.self.view_is) (
    sym (ap (option_map (λ (x : Placed). length x.bytes)) (no_place _ c.self.invariant c.args.h.0 (sym c.in-None.ensures.found))))
