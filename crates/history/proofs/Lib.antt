pub mod Keeps
pub mod Sums
pub mod Sound
pub mod Twins
pub mod Stands
pub mod Parts
pub mod Lists
pub mod WorkedSteps
