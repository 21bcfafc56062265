pub mod ReadExpressions
pub mod Room
pub mod ReadLines
pub mod OpenBlocks
pub mod StatementPuts
pub mod Building
pub mod BuilderSteps
pub mod ReadScript
