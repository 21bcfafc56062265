pub mod Index
pub mod IntegerTokens
pub mod Limits
pub mod Storage
pub mod Utf16
