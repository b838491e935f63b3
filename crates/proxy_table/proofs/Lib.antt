pub mod Free
pub mod View
pub mod Stack
