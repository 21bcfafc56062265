pub mod KnownShapes
pub mod ShortTexts
