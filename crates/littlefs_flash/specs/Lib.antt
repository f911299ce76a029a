pub mod Chips
pub mod Codes
pub mod Sessions
pub mod Sizes
pub mod Starts
pub mod Status
