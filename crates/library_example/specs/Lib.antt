pub mod Cycle
pub mod Stored
