pub mod Layout
pub mod Maps
pub mod Needed
