pub mod Members
mod Resolved
pub mod Same
pub mod Order
pub mod Steps
pub mod Somewhere
pub mod Empty
