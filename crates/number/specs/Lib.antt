pub mod Words
pub mod Sizes
pub mod Outcomes
pub mod Conditions
