pub mod Folding
pub mod Opening
pub mod Growing
pub mod NewNames
pub mod Wholes
pub mod Rest
mod RealNodes
pub mod SameOverload
mod Examples
