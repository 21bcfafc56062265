pub mod JoinedTexts
pub mod FirstFrom
pub mod Heirs
pub mod Giving
