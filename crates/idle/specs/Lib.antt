pub mod FirstFrom
pub mod Idle
