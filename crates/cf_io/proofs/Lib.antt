pub mod CallerLemmas
pub mod Digits
pub mod Feeding
pub mod LineLemmas
pub mod Looping
