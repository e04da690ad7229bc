pub mod Puts
pub mod Joins
pub mod Stores
pub mod Stretches
pub mod Cuts
