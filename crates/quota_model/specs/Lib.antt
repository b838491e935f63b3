pub mod Refusals
pub mod Admission
pub mod Parts
pub mod Shared
pub mod Joined
pub mod Layout
