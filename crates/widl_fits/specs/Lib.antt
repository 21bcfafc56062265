pub mod ChoiceValues
pub mod Required
pub mod Fitting
pub mod Literals
pub mod Hierarchies
