pub mod Calls
pub mod Scheduled
