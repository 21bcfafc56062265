pub mod Names
pub mod TypeTexts
pub mod Ids
pub mod Ready
