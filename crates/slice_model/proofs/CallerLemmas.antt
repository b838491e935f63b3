-- The lemmas that other crates' proofs may cite, passed on from other files: the arrangement with the job's placeholder, the rules of a state, refusals, jobs
-- and their slices, words, orders, calls on one map from numbers to bytes, and quotients and sums that grow by one.
pub use Rattle.slice_model.proofs.Occupied.{placeholder_class, no_placeholder, get_beside, some_beside, inserted_beside, job_class, beside}
pub use Rattle.slice_model.proofs.Occupied.{on_more, free_is_place, lacking_is_no_place, no_place_is_lacking}
pub use Rattle.slice_model.proofs.KeptSteps.{changed_places, other_than, slot_stays}
pub use Rattle.slice_model.proofs.KeptSteps.{kept_malloc, kept_write, kept_begun, kept_slice}
pub use Rattle.slice_model.proofs.KeptSteps.{one_more, same_elsewhere, must_is_two, two_is_must, two_is_last, sound_without_slot}
pub use Rattle.slice_model.proofs.RoomBeside.{one_cause, given_or_refused, answered}
pub use Rattle.slice_model.proofs.WordAddresses.{kept_apart, where_word, word_of_other, word_done, word_left, outside_not, own_words_at}
pub use Rattle.slice_model.proofs.WordAddresses.{job_within, object_slot, object_within}
pub use Rattle.slice_model.proofs.SliceWords.{cleared, carried, words_ended, words_to_clear, words_to_carry}
pub use Rattle.slice_model.proofs.CallWords.{mover_class, words_sliced, words_given, words_written, byte_there}
pub use Rattle.slice_model.proofs.OneMap.{objects_sliced, call_on_map}
pub use Rattle.slice_model.proofs.Results.{free_answered}
pub use Rattle.slice_model.proofs.JobSlices.{followed_once, slices_idle, slices_split, slot_advanced}
pub use Rattle.slice_model.proofs.PendingTime.{begun_fresh, begun_once}
pub use Rattle.slice_model.proofs.OrderOnce.{one_free, one_malloc, one_slice, one_write, order_happens}
pub use Rattle.slice_model.proofs.OrderThere.{can_give, can_remove, can_slice, order_kept}
pub use Rattle.slice_model.proofs.SparePage.{ceil_one_more, sum_one_more}
