pub mod Meaning
pub mod Block
pub mod Region
