mod NamesGiven
mod PathPlaces
mod Growing
mod Stepping
mod Runs
mod Refusing
mod ImagesMade
mod Walking
pub mod Common
