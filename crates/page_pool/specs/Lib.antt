pub mod Pool
pub mod Layout
pub mod Needed
