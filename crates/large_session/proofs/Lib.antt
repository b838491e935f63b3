pub mod LargeThere
pub mod RunInvariant
pub mod Claims
pub mod Worked
pub mod CallerLemmas
