pub mod HeldValues
pub mod Kinds
pub mod ArrayWaits
pub mod Waits
pub mod Frames
pub mod Stack
