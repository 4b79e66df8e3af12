pub mod Head
pub mod RunTold
