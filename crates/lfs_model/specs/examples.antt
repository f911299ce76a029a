-- Images, histories, sessions and sources for examples.
pub mod Images
pub mod Violations
pub mod Histories
pub mod Sessions
pub mod Runs
pub mod Written
pub mod Sources
