pub mod Proxies
pub mod Layout
pub mod Needed
