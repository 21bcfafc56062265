pub mod InnerConversions
pub mod CallSuspending
pub mod CallResuming
pub mod CallLeading
pub mod HeldReads
