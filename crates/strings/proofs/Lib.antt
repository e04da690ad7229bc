pub mod Loops
pub mod StringBounds
