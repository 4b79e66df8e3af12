pub mod Least
pub mod ShownFrom
pub mod Once
