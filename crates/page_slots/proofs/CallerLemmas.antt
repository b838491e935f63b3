-- What proofs of other crates may cite, passed on from other files: free pages and lists, what calls do to tables and objects, the order, a new heap's tables,
-- numbers of pages, an owner's objects, and leaving a slot. Declares nothing.
pub use Rattle.page_slots.proofs.Occupied.{free_bare, free_of_none}
pub use Rattle.page_slots.proofs.Pages.{free_page, one_class}
pub use Rattle.page_slots.proofs.TablesAfterTake.{Gains, front_listed, taken_gains}
pub use Rattle.page_slots.proofs.NextSlots.{drop_same, fill_same, filler_next, open_empty, order_is, steps_same, taken_next, vacated_order}
pub use Rattle.page_slots.proofs.Start.{first_occupied, first_table, new_serve, no_pages}
pub use Rattle.page_slots.proofs.PageNumbers.{free_pages_are, home_pages_are, not_full_pages_are, pages_are}
pub use Rattle.page_slots.proofs.AfterCalls.{taken_part, taken_serve, taken_is_free, taken_occupied, vacated_part, vacated_serve}
pub use Rattle.page_slots.proofs.AfterCalls.{vacated_occupied, filler_in, filler, filler_is, filler_not_full, filler_may, filled_part}
pub use Rattle.page_slots.proofs.AfterCalls.{filled_serve, filled_occupied, refused_lacks_room, found_page, moves_is, moves_some}
pub use Rattle.page_slots.proofs.AfterCalls.{rewritten_occupied, renumbered_occupied, others_elsewhere, others_tables, others_occupied}
pub use Rattle.page_slots.proofs.AfterCalls.{mine_elsewhere}
pub use Rattle.page_slots.proofs.Owner.{as_many, class_is, class_some, places_are, held_len, no_place, place_known, OwnsObjects, held, slot_there, holds, slot_small}
pub use Rattle.page_slots.proofs.Owner.{place_in, bytes_few, has_class}
pub use Rattle.page_slots.proofs.Owner.{object_at, it, it_found, it_class, size_is, it_slot, it_inside, it_bytes, class_listed, page_same, slot_same}
pub use Rattle.page_slots.proofs.Owner.{it_used, page_there, must, moving, some_not_full, Fills, must_fill, other_fills, kept_tables, other}
pub use Rattle.page_slots.proofs.Owner.{other_object, other_found, other_at, other_known, other_may, mover, same_slot}
pub use Rattle.page_slots.proofs.Owner.{words_in, count_few, bytes_read}
pub use Rattle.page_slots.proofs.Rewritten.{rewrites}
pub use Rattle.page_slots.proofs.Leaving.{may_leave, other_moved}
