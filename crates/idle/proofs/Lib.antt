pub mod FirstFrom
pub mod Busy
pub mod Ranges
pub mod Begun
pub mod Idle
pub mod Once
