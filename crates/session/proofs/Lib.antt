pub mod Attempts
pub mod Steps
pub mod Loops
pub mod Opening
