-- The tree that a disk shows, and the disks that are accepted.
pub mod Tree
pub mod Shown
pub mod View
pub mod Profile
pub mod Fresh
