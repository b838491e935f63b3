-- What other crates' proofs may cite, re-exported: the replies to `p`, `walk` and `frag` have the outcome `Other`, neither good nor refused. Declares
-- nothing.
pub use Rattle.cf_session.proofs.Reporting.{word_other}
pub use Rattle.cf_session.proofs.Reporting.{frag_other, pages_other, walk_other}
