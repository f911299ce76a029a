-- What the disk may hold after a power loss.
pub mod Conformance
pub mod Frame
pub mod Failure
pub mod ReadBounds
pub mod Stops
pub mod PowerLoss
pub mod Premises
pub mod FailedCalls
pub mod Standing
pub mod Performed
pub mod Lives
pub mod LifeHeadline
pub mod RepeatedPowerLoss
pub mod LifeTrees
