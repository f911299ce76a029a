mod NamedSlots
pub mod ByName
mod Walked
pub mod ReadOnly
mod RecentBlocks
mod ShownAlong
mod ShownSlots
mod HiddenSlots
pub mod Entered
pub mod Descended
pub mod LoadedDown
pub mod ItemsShown
pub mod Reading
pub mod Directories
pub mod Visits
mod Sizes
pub mod Roots
mod LastNames
mod Profiled
mod ImageSuperblock
pub mod AtPaths
mod ListAtNames
mod ListAtShort
mod ListAtItems
pub mod ShownFindings
pub mod BytesAtSlots
pub mod AttributeAtSlots
mod AttributesPut
mod PairAddresses
mod FileContentsAt
mod Halved
mod HalvedReads
mod EmptyFirst
mod InOrder
mod HalvedDown
pub mod Common
