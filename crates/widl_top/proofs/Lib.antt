mod Answered
mod Asked
mod Budgets
mod Endings
mod Fetches
mod Names
mod OneOutput
pub mod PlainSteps
pub mod ReadScripts
mod ScriptRuns
