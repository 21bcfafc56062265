pub mod Joined
pub mod Firsts
pub mod Tuples
pub mod Stepped
