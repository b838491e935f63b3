pub mod CallerLemmas
pub mod Calling
pub mod Reporting
pub mod Naming
pub mod Spelling
