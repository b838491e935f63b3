pub mod State
pub mod Steps
pub mod Words
pub mod Runs
pub mod Ordered
