pub mod Findings
pub mod Steps
pub mod Texts
pub mod Verdicts
pub mod TypeLevels
