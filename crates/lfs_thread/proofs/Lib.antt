mod BehindRead
pub mod CachedLogs
pub mod Keeping
mod InOrder
pub mod Changing
pub mod Coming
pub mod Parting
pub mod Begun
pub mod Dropped
pub mod Joined
pub mod Threaded
pub mod WrittenBehind
pub mod Moving
pub mod Reported
pub mod CachedPair
pub mod GlobalState
pub mod Beside
pub mod ByBlocks
pub mod HeaderReads
pub mod MountErrors
pub mod Common
