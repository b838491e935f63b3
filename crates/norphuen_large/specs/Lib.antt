pub mod HeldState
pub mod Most
pub mod Calls
pub mod HandleRules
pub mod Needed
pub mod CallerHeap
pub mod Place
