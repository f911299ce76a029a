-- What a session replies, and what it writes to the disk.
pub mod History
pub mod Operations
pub mod TreeEdits
pub mod Session
pub mod Writers
pub mod Refusals
pub mod Effects
pub mod State
pub mod Recovery
pub mod SlotEdits
pub mod Layout
pub mod Moved
pub mod InDirectory
pub mod Run
pub mod Accepted
pub mod Headline
