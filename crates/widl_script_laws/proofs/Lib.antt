pub mod Giving
pub mod Words
pub mod Expressions
pub mod Lines
