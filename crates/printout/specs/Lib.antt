pub mod Text
pub mod Regions
pub mod Instructions
pub mod Listing
pub mod Lines
