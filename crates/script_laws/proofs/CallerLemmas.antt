-- Re-exported for other crates' proofs: runs over every script exist and meet the headline, by the heaps that they show; with every bound 1 they print the
-- transcript, and figures follow from the objects alone; with an order they are alike; what reads print; that a refused malloc doesn't print `ok`; every item
-- of a script is valid, and only the first may open a heap; objects by id; small finite maps entry by entry; words of which a part is rewritten; of a session
-- over any heap of objects what each command keeps, does to ids and objects, and prints, and that it replies.
pub use Rattle.script_laws.proofs.CommandAnswers.{begin_exists, step_exists}
pub use Rattle.script_laws.proofs.GoingOn.{kind_goes_on, run_keeps}
pub use Rattle.script_laws.proofs.PageRules.{is_rewritten, length-rewritten, rewritten}
pub use Rattle.script_laws.proofs.Items.{all_items_valid, within_range}
pub use Rattle.script_laws.proofs.RunsExist.{CanGoOn, IsOn, run_on, run_there, runs_on, runs_exist, valid_before, sayable_behind, step_on}
pub use Rattle.script_laws.proofs.NamedTurns.{any_reads_are_shown, changed_is}
pub use Rattle.script_laws.proofs.ReadBack.{reads_are_shown}
pub use Rattle.script_laws.proofs.BoundsAtOne.{stays_at_one}
pub use Rattle.script_laws.proofs.PagesAtOne.{figures_alike, figures_are, live_alike, needed_alike, needed_with_alike, said_alike, totals_are}
pub use Rattle.script_laws.proofs.SmallMaps.{counted, got, got_none, listed, listed_none}
pub use Rattle.script_laws.proofs.Claims.{headline_met, run_met, shown_at}
pub use Rattle.script_laws.proofs.OneTranscript.{bytes_are, one_shown}
pub use Rattle.script_laws.proofs.After.{malloc_refused, view}
pub use Rattle.script_laws.proofs.Exact.{IsInOrder, item_is}
pub use Rattle.script_laws.proofs.Shown.{shown}
pub use Rattle.script_laws.proofs.OneOutput.{begins_once, begun_alike, step_keeps}
pub use Rattle.script_laws.proofs.ObjectTurns.{FreesOn, IsAccessFault, KeepsObjects, MallocsOn, WritesOn, going_before, names_objects, still_going, turn}
pub use Rattle.script_laws.proofs.ObjectTurns.{HasCalls, can_go_on, object_step_exists}
pub use Rattle.script_laws.proofs.ObjectTurns.{always_taken, by_id, bytes_by_id, free_by_id, malloc_by_id, malloc_text_by, refused, taken_unless, write_by_id}
pub use Rattle.script_laws.proofs.ObjectTurns.{read_fault, read_said, read_unknown}
