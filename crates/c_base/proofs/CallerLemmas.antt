-- What other crates' proofs may cite: of handles, of a `Result` that passes through `ok()`, of a heap's block and of the loan of its words, also for `Send`, of all words of a region, and of a
-- struct for C that is lent as another.
pub use Rattle.c_base.proofs.HandleLaws.{freed_handles, names_new, new_handle, no_number, none_there, not_found, opened_handles, same_handles}
pub use Rattle.c_base.proofs.Opened.{at_ok, at_some, in_box, ok_value}
pub use Rattle.c_base.proofs.Blocks.{place_val, place_in, place_out}
pub use Rattle.c_base.proofs.Loans.{fit_some, replaced}
pub use Rattle.c_base.proofs.WholeWords.{again, as_many, long, same_words}
pub use Rattle.c_base.proofs.Crosses.{loan-Keyless, place-Keyless}
pub use Rattle.c_base.proofs.Inner.{lends_inner}
