pub mod SliceRun
pub mod Playing
pub mod ShownSlices
pub mod SliceHeadline
pub mod Small
