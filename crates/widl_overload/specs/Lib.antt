pub mod sets
pub mod OperationsAlone
pub mod rules
