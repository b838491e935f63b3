-- What other crates' proofs may cite, re-exported: the number fields and the settings of an image, its objects by rising id, their bytes as read from the heap,
-- the pages that they need, and what a load did by the source's bytes. Declares nothing.
pub use Rattle.heap_image.proofs.Chunks.{chunk_is, object_length}
pub use Rattle.heap_image.proofs.Encoded.{AreBelow, below_end, below_none, below_some, needed_added, needed_more}
pub use Rattle.heap_image.proofs.Listing.{listed_all, listed_end, listed_none, listed_some}
pub use Rattle.heap_image.proofs.LoadRows.{observed_load, some_load}
pub use Rattle.heap_image.proofs.Numbers.{bytes_back_2, bytes_back_4, length-entry, length-header}
pub use Rattle.heap_image.proofs.ImageDecoded.{page_small, profile_is}
pub use Rattle.heap_image.proofs.LivesLemmas.{objects_of_is}
