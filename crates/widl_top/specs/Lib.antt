pub mod Answers
pub mod Causes
pub mod Output
pub mod Outputs
pub mod Readings
pub mod Requests
pub mod ScriptOutputs
pub mod Statuses
