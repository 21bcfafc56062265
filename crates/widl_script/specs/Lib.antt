pub mod Scripts
pub mod Owners
pub mod CalleeBlocks
pub mod Outcomes
