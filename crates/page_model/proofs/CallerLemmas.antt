-- What other crates' proofs may cite, re-exported: on classes, addresses of slots, sound arrangements, partly full pages, counts and sums, pages in use and
-- needed, figures, images, bytes, blocks, orders and bounds on steps, and on what a malloc, a free and a resize do to each.
pub use Rattle.page_model.proofs.Counting.{one_le, less_counts, not_less_counts_none, part_full, part_empty, part_over, part_yes, on_yes}
pub use Rattle.page_model.proofs.Counting.{counted_here, on_page, standing, nothing_on, not_full-same}
pub use Rattle.page_model.proofs.Placing.{objects_on-inserted, objects_on-elsewhere, sound_placed, sound_malloc}
pub use Rattle.page_model.proofs.Freeing.{objects_on-away, objects_on-left, objects_on-exchanged, sound_exchanged}
pub use Rattle.page_model.proofs.Totals.{sum_same, sum_plus, sum_zeros, sum-map_values, live_is, on_none}
pub use Rattle.page_model.proofs.PageCounts.{slots_some, sound_stand, sound_few}
pub use Rattle.page_model.proofs.FreeSteps.{removed_twice, mover_is_other, sound_without, sound_free}
pub use Rattle.page_model.proofs.PageLaws.{between_multiples, can_hold_one}
pub use Rattle.page_model.proofs.Images.{within_or, disjoint_outside, image_added, turned}
pub use Rattle.page_model.proofs.Reading.{held_from_image, byte_below, bytes_at-AreBytes, places-held_at, held_at_is, held_at_bytes}
pub use Rattle.page_model.proofs.Lacking.{used_is}
pub use Rattle.page_model.proofs.RoomAtOne.{home_at_one, used_at_one, lacks_room_at_one}
pub use Rattle.page_model.proofs.Sizes.{paged, first_paged, class_fits, class_holds, class_known, class_none, in_blocks, slot_fits, first_ones}
pub use Rattle.page_model.proofs.Resizing.{length-resized, class-resized, changes_class, change_is, sound_resize}
pub use Rattle.page_model.proofs.Parts.{bytes_held, bytes_missing, class_of_zeros, held_of_bytes, inserted_there, malloc_objects, malloc_places, still_places, free_objects, moved_places, rewritten_places}
pub use Rattle.page_model.proofs.SlotImages.{slot_inside, sound_apart, object_inside, sound_apart_from, place_apart, place_is_zeros}
pub use Rattle.page_model.proofs.SlotImages.{image_after_malloc, image_after_free, image_after_write, image_after_move, image_exchanged, own_words}
pub use Rattle.page_model.proofs.Frames.{first_permuted, place_is_block, physical_word}
pub use Rattle.page_model.proofs.Writing.{byte_of_object, word_by_bytes, object_word_small, length-written, written_before, written_inside}
pub use Rattle.page_model.proofs.Writing.{written_behind, zeros_are_bytes, written_are_bytes, resized_are_bytes, resized_before, resized_behind}
pub use Rattle.page_model.proofs.Writing.{written_nothing, image_after_bytes, storable_added, storable_without, header_shown}
pub use Rattle.page_model.proofs.Addresses.{address_is_slot, slot_is_address}
pub use Rattle.page_model.proofs.OpenPages.{IsOpen, IsVacant, open_counts, open_page, less_where_vacant, place_is_room, some_move, vacant_where_less}
pub use Rattle.page_model.proofs.Nothing.{sound_empty, image_empty, no_objects, none_asked, none_live, none_needed, none_taken, nothing_held}
pub use Rattle.page_model.proofs.BlockSteps.{free_blocks, free_frames, resize_blocks, resize_frames}
pub use Rattle.page_model.proofs.Adding.{home_at_most, len-objects, live_added, live_few, live_rewritten, live_taken, taken_added, taken_taken, asked_added, asked_taken}
pub use Rattle.page_model.proofs.ResizedWords.{image_after_change, image_after_change_and_move}
pub use Rattle.page_model.proofs.Reading.{bytes_of_held, bytes_long, bytes_part, byte_is}
pub use Rattle.page_model.proofs.Enough.{ceil_mono, pages_grow, pages_same}
pub use Rattle.page_model.proofs.Following.{free_once, malloc_once, mover_once}
pub use Rattle.page_model.proofs.ResizeOnce.{resize_once}
pub use Rattle.page_model.proofs.OrderSteps.{can_free, can_malloc, can_resize, order_in_place}
pub use Rattle.page_model.proofs.OrderNumbers.{numbers_spare, order_bounded, order_is, spare_same}
pub use Rattle.page_model.proofs.OrderLists.{pages_listed, renumbered, still_listed}
pub use Rattle.page_model.proofs.FirstOrder.{first_is_order}
pub use Rattle.page_model.proofs.ImageSteps.{fresh_word, image_unique}
pub use Rattle.page_model.proofs.StepBounds.{copy_few, drop_few, either_few, fill_few, run_few, slot_few, take_few, wipe_few, word_few}
