pub mod Tables
pub mod Sent
pub mod TaskLaws
pub mod Admissions
