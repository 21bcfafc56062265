pub mod OwnerNumbers
pub mod FirstBlocks
pub mod OverloadTargets
pub mod WholeOutcome
pub mod OneOutcome
