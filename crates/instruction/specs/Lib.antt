pub mod Operations
pub mod Opcodes
pub mod Modes
pub mod Decode
pub mod Formats
pub mod Lawful
pub mod Build
pub mod Text
