pub mod Tiling
pub mod Words
pub mod ReadWords
pub mod Buckets
pub mod FreeOrder
pub mod Costs
pub mod Worked
