pub mod Classes
pub mod Copies
pub mod IdlTerms
pub mod Near
pub mod Rounding
pub mod Steps
