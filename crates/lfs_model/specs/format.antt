-- What the bytes of a disk mean.
pub mod Blocks
pub mod Geometry
pub mod Disk
pub mod Names
pub mod Crc
pub mod Tag
pub mod Log
pub mod Slots
pub mod EntryTypes
pub mod Content
pub mod SkipLists
pub mod Thread
