pub mod Counts
pub mod NoWrongNumbers
mod KnownBytes
pub mod Writers
mod Images
mod Checks
mod Mounts
mod Walked
mod ActionsDone
mod Unpacks
pub mod Common
mod Table
mod Simple
mod Given
mod Complete
mod Getters
mod Vectors
mod Rules
mod Boards
mod Digits
mod Fractions
mod Pointed
mod HeldItems
mod NamesBeside
mod Order
mod Reading
mod FoundOrders
