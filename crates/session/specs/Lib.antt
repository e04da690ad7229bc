pub mod Calls
pub mod Attempt
