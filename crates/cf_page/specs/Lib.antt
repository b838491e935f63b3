pub mod ArgumentWords
pub mod PageRun
