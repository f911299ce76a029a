pub mod Working
pub mod Writing
pub mod Settings
pub mod Counter
pub mod Log
