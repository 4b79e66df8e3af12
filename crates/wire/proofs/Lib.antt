pub mod Put
pub mod Once
