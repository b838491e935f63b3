pub mod PageLists
pub mod Counts
pub mod Layout
pub mod Needed
