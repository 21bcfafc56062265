-- The rules of validity, each as one predicate.
pub mod TypeUses
pub mod ArgumentRules
pub mod DefinitionRules
pub mod MemberRules
pub mod TypeRules
pub mod Dictionaries
pub mod DictionaryRules
pub mod DefaultRules
pub mod IterableRules
pub mod OverloadRules
pub mod OverloadViolations
pub mod OnDefinitions
pub mod OnTypes
pub mod OnMembers
pub mod Validity
