pub mod Paste
pub mod Lined
pub mod Once
