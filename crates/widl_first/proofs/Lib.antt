pub mod Firsts
pub mod KeyFirsts
