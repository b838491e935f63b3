pub mod Classes
pub use Rattle.run_model.specs.Reports
