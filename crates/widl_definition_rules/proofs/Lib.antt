pub mod RepeatedTexts
pub mod ArgumentPlaces
pub mod DefinitionPlaces
