pub mod Paste
pub mod Lined
