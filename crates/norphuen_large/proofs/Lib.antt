pub mod Sent
pub mod Fresh
pub mod Frees
pub mod HeldLaws
pub mod MostSteps
