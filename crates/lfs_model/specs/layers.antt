-- What single layers keep, write and find.
pub mod BlockSets
pub mod Cache
pub mod Commit
pub mod WrittenContent
pub mod Cut
pub mod LoggedContent
pub mod Changes
pub mod Lookup
pub mod Violations
pub mod ProfileBreaches
pub mod BlockBytes
pub mod Keeping
pub mod Steps
pub mod Listing
pub mod Source
pub mod StepResults
pub mod SlotChanges
