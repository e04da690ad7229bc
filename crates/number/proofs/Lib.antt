pub mod Bytes
pub mod Powers
pub mod Residues
pub mod Spans
pub mod Table
