pub mod Spelled
pub mod LineEnds
pub mod Steps
pub mod Runs
