pub mod Heap
pub mod Room
pub mod Access
pub mod Costs
pub mod Choices
pub mod Needed
