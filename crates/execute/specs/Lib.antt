pub mod Two
pub mod One
pub mod Execute
pub mod Step
