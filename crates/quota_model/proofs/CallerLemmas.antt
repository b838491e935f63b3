-- The lemmas that other crates' proofs cite, re-exported: admission and the declared mallocs, lists (counts, tests, zeros), the pages that lengths need, the
-- paging of tasks, and the objects, quotas, addresses and words of tasks before and after a call. Declares nothing.
pub use Rattle.quota_model.proofs.Ceilings.{count-append, count-cons, pages_of_none, pages_few}
pub use Rattle.quota_model.proofs.Contained.{contained, times}
pub use Rattle.quota_model.proofs.Declared.{AllFit, all_fail, all_fit, counted_by, declared_is, length-in_order}
pub use Rattle.quota_model.proofs.EnoughPages.{count-map, granted_within, live_of-inserted}
pub use Rattle.quota_model.proofs.AdmissionLaws.{enough_iff, none_iff, one_answer, some_iff}
pub use Rattle.quota_model.proofs.TaskParts.{found_small, found_whole, found_part, part_inserted}
pub use Rattle.quota_model.proofs.SharedPages.{tasks_paged, tasks_at_one}
pub use Rattle.quota_model.proofs.SharedMalloc.{others_stay, own_objects, quotas_stay, stays_shared}
pub use Rattle.quota_model.proofs.SharedFree.{own_without, own_freed, others_kept, free_shared, free_quotas}
pub use Rattle.quota_model.proofs.QuotasFit.{zeros, sum_zeros_list, no_part, first_shared, first_quotas, granted_quotas}
pub use Rattle.quota_model.proofs.JoinedPlaces.{get_by_key, joined_insert, joined_remove, numbers_set, part_joined}
pub use Rattle.quota_model.proofs.Written.{live_same, needed_same, objects_rewritten, others_rewritten, own_rewritten, rewritten_quotas, rewritten_shared}
pub use Rattle.quota_model.proofs.TaskImages.{image_of_malloc, image_of_write, moved_image, own_image}
pub use Rattle.quota_model.proofs.TaskImages.{removed_image}
