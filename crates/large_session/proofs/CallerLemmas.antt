-- What other crates' proofs may cite, re-exported: the replies of every run of the script loop in mode `large` meet the claim (`MeetsLarge`). Declares
-- nothing.
pub use Rattle.large_session.proofs.Claims.{large_met}
