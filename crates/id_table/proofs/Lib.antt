pub mod LayoutFacts
pub mod Ties
pub mod Naming
pub mod ByIds
pub mod Needs
pub mod CallerLemmas
