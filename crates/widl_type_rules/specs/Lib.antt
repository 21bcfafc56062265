pub mod UsesListed
pub mod SettledUses
pub mod Misplaced
pub mod IndistinguishableKinds
pub mod IndistinguishablePairs
pub mod Lineages
pub mod UnaskedUses
