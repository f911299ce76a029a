pub mod Buffers
pub mod Codes
pub mod Configs
pub mod Flags
pub mod Infos
