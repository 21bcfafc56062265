pub mod KeptValues
pub mod Inherited
pub mod Fits
pub mod DefaultValues
pub mod MainDefinitions
pub mod MergedParents
pub mod MergedHierarchies
