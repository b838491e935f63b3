-- What other crates' proofs may cite, re-exported: what the calls of the inner manager do to its objects, and how the objects that are made of these change
-- with them; room for inner objects; writes part by part; and what a heap without objects keeps. Declares nothing.
pub use Rattle.large_objects.proofs.AccessLemmas.{inside_part, is_ready, next_write, so_far_more, then_kept, wrote_all, wrote_nothing}
pub use Rattle.large_objects.proofs.Gathering.{all_gathered}
pub use Rattle.large_objects.proofs.GrowLemmas.{grows_first, grows_more, inner_beside, part_named, place_in_spine, room_for_part, room_for_short}
pub use Rattle.large_objects.proofs.GrowLemmas.{room_for_spine}
pub use Rattle.large_objects.proofs.InnerSteps.{handle_below, inner_freed, inner_given, inner_not_refused, inner_written}
pub use Rattle.large_objects.proofs.Kept.{gone_frees, gone_kept, has_inner_objects, long_kept, long_writes, made_gives, made_kept, object_room, part_there}
pub use Rattle.large_objects.proofs.Kept.{same_kept, short_inner, short_kept, short_writes}
pub use Rattle.large_objects.proofs.Opening.{parts, some_words}
pub use Rattle.large_objects.proofs.ShrinkLemmas.{next_there, releases_long, shrinks_first, shrinks_more, spine_is_live}
