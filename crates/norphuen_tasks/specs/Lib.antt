pub mod Handles
pub mod TasksState
pub mod Codes
pub mod Calls
pub mod Needed
pub mod CallerTasks
pub mod Place
pub mod LeavesAlone
