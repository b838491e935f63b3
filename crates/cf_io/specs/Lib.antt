pub mod Feeds
pub mod Lines
pub mod Texts
pub mod Numbers
pub mod Schedules
pub mod Sinks
pub mod Sources
pub mod Devices
