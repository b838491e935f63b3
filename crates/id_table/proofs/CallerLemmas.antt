-- What other crates' proofs may cite, re-exported: ids stay tied to the objects that they name, what objects (or other values) by id are, when a malloc is
-- refused if every bound is 1, and the facts of `Naming` about costs, writes and runs. Declares nothing.
pub use Rattle.id_table.proofs.Ties.{clash, none_tied, tied_less, tied_more, tied_same}
pub use Rattle.id_table.proofs.Naming.{costs_at_most, costs_nothing, counted_ids, going_inside, names_of_held, names_of_objects, no_fault}
pub use Rattle.id_table.proofs.Needs.{LacksByNeed, refused_by_need}
pub use Rattle.id_table.proofs.ByIds.{by_id_changed, by_id_counts, by_id_given, by_id_gone, found_by_id, gone_by_id, live_by_id, none_by_id, numbered_by_id, unnumbered_by_id}
pub use Rattle.id_table.proofs.ByIds.{changed_renamed, found_renamed, given_renamed, gone_renamed, gone_with, live_renamed, renamed, renamed_counts}
