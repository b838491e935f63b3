pub mod CallerLemmas
pub mod Stack
