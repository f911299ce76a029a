pub mod AsBox
mod Formats
mod Images
mod Kept
mod Mountings
mod Tables
