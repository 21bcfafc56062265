-- Worked conversations of calls.
pub mod OperationTalks
pub mod ObjectTalks
pub mod ArrayTalks
