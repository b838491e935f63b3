-- What other crates' proofs may cite, re-exported: a run is in progress when it begins, and each step keeps it so, with rules, kind and settings, and meets
-- `MeetsBounds`; the step of each command that names an id, by the id's handle; what a refused resize, a resize and the counting of a move keep; consecutive
-- runs are one, and the states of a run may be mapped; and what objects by id, or other values by id, are. Declares nothing.
pub use Rattle.run_model.proofs.Bounded.{step_meets_bounds}
pub use Rattle.run_model.proofs.RunInvariant.{begins_going, step_going, step_same}
pub use Rattle.run_model.proofs.RunInvariant.{counted_bound, resized_ids, unmoved_changes_cost}
pub use Rattle.run_model.proofs.RunInvariant.{unmoved_held}
pub use Rattle.id_table.proofs.CallerLemmas.{counted_ids, names_of_objects}
pub use Rattle.run_model.proofs.RunInvariant.{step_rules}
pub use Rattle.run_model.proofs.Plays.{one_run, part_seen, run_joined, run_seen, run_through, text_joined}
pub use Rattle.run_model.proofs.RunInvariant.{MallocsAt, FreesAt, WritesAt, ResizesAt}
pub use Rattle.id_table.proofs.CallerLemmas.{by_id_changed, by_id_counts, by_id_given, by_id_gone, gone_by_id, live_by_id, none_by_id}
pub use Rattle.id_table.proofs.CallerLemmas.{changed_renamed, found_renamed, given_renamed, gone_renamed, gone_with, live_renamed, renamed, renamed_counts}
