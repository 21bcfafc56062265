pub mod Bind
pub mod Nexts
pub mod Positions
pub mod Renaming
pub mod Wholes
pub mod Running
pub mod Lifting
pub mod Ending
pub mod Keeping
pub mod Crediting
pub mod Counting
pub mod Following
pub mod Settling
pub mod Stacking
mod Examples
