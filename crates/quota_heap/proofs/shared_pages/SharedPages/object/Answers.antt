use Rattle.std.proofs.Common.{◌/◌, ◌^◌, sym, ◌∙◌, ap}
use Rattle.page_slots.proofs.CallerLemmas.{place_in, has_class, object_at}
use Rattle.quota_heap.proofs.Facts.{owns}
use Rattle.quota_heap.proofs.shared_pages.SharedPages.object.Goals as goal

pub read-requires : goal.read-requires
read-requires c = record { within = place_in (owns c.requires.shared_pages c.requires.kept.1) c.args.h.0 c.in-Some.place (sym c.in-Some.ensures.found) }

pub unreachable-requires : goal.unreachable-requires
unreachable-requires c = has_class (owns c.requires.shared_pages c.requires.kept.1) c.args.h.0 c.in-Some.place (sym c.in-Some.ensures.found)
    c.unpack-length.result.length (c.unpack-length.ensures.length ∙ ap (λ w. w / 2 ^ 32) c.read.ensures.value) c.in_default-class_of.ensures.found

pub returns-clause-found : goal.returns-clause-found
returns-clause-found c = object_at (owns c.requires.shared_pages c.requires.kept.1) c.args.h.0 c.in-Some.place (sym c.in-Some.ensures.found)
    c.unpack-length.result.length (c.unpack-length.ensures.length ∙ ap (λ w. w / 2 ^ 32) c.read.ensures.value) c.in-Some-class_of.class
    c.in-Some-class_of.ensures.found
