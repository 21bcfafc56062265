pub mod First
pub mod Keys
