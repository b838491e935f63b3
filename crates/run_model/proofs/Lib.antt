pub mod RunInvariant
pub mod Bounded
pub mod CallerLemmas
pub mod Plays
