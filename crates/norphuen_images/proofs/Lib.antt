pub mod Sent
mod Naming
mod Lengths
mod Loading
mod ObjectsByIds
mod ThereAndBack
