-- Worked conversations, and some that are none.
pub mod PickTalks
pub mod ScalarTalks
pub mod PrimitiveTalks
pub mod ResolutionTalks
pub mod ResultTalks
pub mod BuiltTalks
pub mod KeptTalks
pub mod NoTalks
pub mod SequenceTalks
pub mod RecordTalks
pub mod DictionaryTalks
pub mod UnionTalks
pub mod ContainerTalks
pub mod NoContainerTalks
