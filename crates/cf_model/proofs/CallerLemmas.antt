-- Lemmas that other crates' proofs may cite, re-exported: on empty heaps and their orders, on the rules with pages, on the causes of refusals, on the one
-- outcome of a call and what an order determines, and on blocks, their lists, sizes, owners and words. Declares nothing.
pub use Rattle.cf_model.proofs.BlockNeeds.{lawful, need_is_small}
pub use Rattle.cf_model.proofs.Blocks.{blocks_after_free, blocks_after_refusal, blocks_after_resize}
pub use Rattle.cf_model.proofs.EmptyHeaps.{empty_there, no_object, ordered_there, tiled_empty}
pub use Rattle.cf_model.proofs.Exactly.{both_kinds, not_none_found}
pub use Rattle.cf_model.proofs.OpeningOrders.{opened_in_order}
pub use Rattle.cf_model.proofs.Owning.{no_one, owned_free, owned_malloc, owned_replaced}
pub use Rattle.cf_model.proofs.ReadObjects.{fresh_word, objects_shown}
pub use Rattle.cf_model.proofs.BlockWords.{link_outside, links_stay}
pub use Rattle.cf_model.proofs.OneOutcome.{free_same, one_malloc, one_resize, one_write, order_stays, pages_kept, same_words}
