use Rattle.std.proofs.Common.{◌/◌, ◌^◌, length, Some, sym, ◌∙◌, ap}
use Rattle.std.specs.Prelude.{option_map}
use Rattle.page_model.specs.Held.{Placed}
use Rattle.page_model.proofs.CallerLemmas.{bytes_long}
use Rattle.page_slots.proofs.CallerLemmas.{held, no_place, place_in}
use Rattle.quota_heap.specs.Layout.{as_owner}
use Rattle.quota_heap.proofs.Facts.{owns}
use Rattle.quota_heap.proofs.shared_pages.SharedPages.length.Goals as goal

pub returns-in_default-clause-value : goal.returns-in_default-clause-value
returns-in_default-clause-value c =
    sym (ap (option_map (λ (x : Placed). length x.bytes)) (no_place (as_owner c.args.self.now c.args.task.now) c.args.h.0 (sym c.in_default.ensures.found)))

pub read-requires : goal.read-requires
read-requires c = record { within = place_in (owns c.requires.shared_pages c.requires.kept.1) c.args.h.0 c.in-Some.place (sym c.in-Some.ensures.found) }

pub returns-clause-value : goal.returns-clause-value
returns-clause-value c =
    ap Some (c.unpack.ensures.length ∙ ap (λ w. w / 2 ^ 32) c.read.ensures.value ∙ sym (bytes_long c.args.self.now.region c.in-Some.place))
    ∙ sym (ap (option_map (λ (x : Placed). length x.bytes)) (held (owns c.requires.shared_pages c.requires.kept.1) c.args.h.0 c.in-Some.place (sym c.in-Some.ensures.found)))
