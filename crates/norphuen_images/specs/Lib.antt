pub mod State
pub mod Calls
pub mod Needed
pub mod CallerImages
pub mod Place
pub mod Slices
