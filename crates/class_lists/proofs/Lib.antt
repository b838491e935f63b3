pub mod Chains
pub mod Rings
pub mod Views
pub mod Pairs
