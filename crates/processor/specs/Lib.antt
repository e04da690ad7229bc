pub mod Registers
pub mod Operands
pub mod Operations
