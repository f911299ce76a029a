pub mod BlockMap
pub mod CacheView
pub mod Marks
pub mod Next
pub mod BlockReads
pub mod UsedBlocks
pub mod CacheLends
