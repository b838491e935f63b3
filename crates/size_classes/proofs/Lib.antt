pub mod LeastSize
pub mod PowerOfTwo
