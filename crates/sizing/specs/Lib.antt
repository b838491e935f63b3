pub mod Certificates
pub mod Checks
pub mod Demands
pub mod Heaps
pub mod Layout
pub mod Needs
pub mod Runs
