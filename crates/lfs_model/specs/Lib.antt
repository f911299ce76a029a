pub mod format
pub mod tree
pub mod session
pub mod crash
pub mod layers
pub mod examples
