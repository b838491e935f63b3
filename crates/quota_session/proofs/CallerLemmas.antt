-- What other crates' proofs may cite, re-exported: in mode `quota` the replies are those that the lines determine. Declares nothing.
pub use Rattle.quota_session.proofs.ScriptShown.{tasks_met}
