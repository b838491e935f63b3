-- What other crates' proofs may cite, re-exported: in mode `slice` the replies meet the claim, and two runs of one script have the same output. Declares
-- nothing.
pub use Rattle.slice_session.proofs.Claims.{sliced_headline_met}
pub use Rattle.slice_session.proofs.OneOutput.{one_play}
