-- What other crates' proofs may cite, re-exported: from the outcome of a script to its status and what that claims, the bytes that it took from the source and
-- the replies that it wrote to the sink, a prefix of a run's if the sink failed; the settings that `WithSettings` keeps; and a session's contract (`Applies`)
-- from the reply that it wrote. Declares nothing.
pub use Rattle.script_loop.proofs.Consequences.{cut_is_prefix_by, met_status, observed_row, some_row, whole_run, within_all, wrote_all, wrote_by}
pub use Rattle.script_loop.proofs.Settling.{wrote_settled}
pub use Rattle.script_loop.proofs.Reporting.{reported, shown_line}
