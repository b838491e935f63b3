pub mod LargeRun
pub mod Speaking
pub mod Playing
pub mod LargeHeadline
pub mod Small
