pub mod WrittenLists
pub mod KnownTexts
