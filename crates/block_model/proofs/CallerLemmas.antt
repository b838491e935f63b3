-- What other crates' proofs may cite of this crate, re-exported: free lists and their order, bounds on steps, and of a tiling its words, the blocks that they
-- show, what a malloc and a free leave of it, and how many words are used. Declares nothing.
pub use Rattle.block_model.proofs.BucketLaws.{half_fit_lawful, tlsf_lawful}
pub use Rattle.block_model.proofs.StepBounds.{carve_at_most, next_at_most, none_at_most, previous_at_most, release_at_most}
pub use Rattle.block_model.proofs.FreeOrderLemmas.{carve_follows, carve_is_malloc, carve_keeps_lists, first_is, led_other, led_same, length-led, length-without}
pub use Rattle.block_model.proofs.FreeOrderLemmas.{last_is, last_none, list_without, no_list, none_is, one_carve, same_listed, without_used}
pub use Rattle.block_model.proofs.FreeOrderRelease.{joined_apart, merged_same, none_ends, release_keeps_lists}
pub use Rattle.block_model.proofs.Others.{fill_le, free_stays, lies, malloc_gives, malloc_stays, released_is_free, used_is_not_free}
pub use Rattle.block_model.proofs.ReadBlocks.{blocks_read}
pub use Rattle.block_model.proofs.FreeOrderLemmas.{opening_lists}
pub use Rattle.block_model.proofs.Others.{take_first}
pub use Rattle.block_model.proofs.Rewriting.{apart, behind, headers_stay}
pub use Rattle.block_model.proofs.Releases.{free_keeps_tiling}
pub use Rattle.block_model.proofs.Rewriting.{refilled, refilled_long, refilled_outside, refilled_words}
pub use Rattle.block_model.proofs.Serving.{carved_or_lacking}
pub use Rattle.block_model.proofs.Steps.{malloc_keeps_tiling}
pub use Rattle.block_model.proofs.TilingWords.{made}
pub use Rattle.block_model.proofs.UsedWords.{used_after_free, used_after_malloc, used_in_one_free, used_within}
