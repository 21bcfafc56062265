pub mod Ranks
mod CalmTalks
mod CalmJobs
pub mod Leaving
pub mod Outcomes
pub mod LineCosts
pub mod ObjectCredit
pub mod LiveParts
pub mod LiveJobs
mod SafeTalks
mod LiveTalks
pub mod LiveSteps
pub mod LiveStores
pub mod LiveWorlds
pub mod LiveRealm
pub mod FittingRuns
mod ShortLines
mod Examples
mod MoreExamples
mod ConversionExamples
