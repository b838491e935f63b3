pub mod Fresh
pub mod Loosen
pub mod Rights
pub mod HandleLaws
