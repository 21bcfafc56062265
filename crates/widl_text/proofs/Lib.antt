pub mod AsciiTexts
pub mod Decimals
pub mod Saturated
