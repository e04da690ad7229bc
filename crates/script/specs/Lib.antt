pub mod Names
pub mod Words
pub mod Numbers
pub mod Problems
pub mod Orders
pub mod Fields
pub mod Lines
pub mod Grammar
