pub mod ByHead
pub mod Once
