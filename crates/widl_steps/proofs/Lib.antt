pub mod OneNexts
pub mod WordCases
pub mod MemberChains
pub mod Finishing
pub mod Faulting
pub mod ContainerAsks
pub mod NameOrder
pub mod MemberReads
pub mod MemberValues
pub mod Turning
pub mod ResultSays
pub mod ValidChains
pub mod UnionMembers
pub mod ValueCounts
pub mod Worked
mod Talks
pub mod CallFinishing
pub mod CallLawProofs
mod CallTalks
