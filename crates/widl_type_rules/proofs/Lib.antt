pub mod ResolvedUses
pub mod SettledUses
pub mod UnaskedUses
pub mod ListedUses
mod IndistinguishableKinds
mod IndistinguishablePairs
mod AnyPair
mod RelatedSpans
mod PairCounts
mod TouchingSpans
pub mod FlatMembers
pub mod LaterAnnotations
pub mod TypedefNotes
pub mod OutlinedRules
