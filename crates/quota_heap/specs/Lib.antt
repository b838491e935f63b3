pub mod State
pub mod Costs
pub mod Steps
pub mod Layout
pub mod Calls
pub mod Needed
