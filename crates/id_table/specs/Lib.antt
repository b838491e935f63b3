pub mod Ids
pub mod Counters
pub mod Layout
pub mod Ties
pub mod Sessions
pub mod ById
pub mod Named
