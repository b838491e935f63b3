pub mod CallerLemmas
pub mod Slots
pub mod Pages
