pub mod Cycles
pub mod Storing
