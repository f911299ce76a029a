pub mod AppliedOperations
pub mod MadeImages
