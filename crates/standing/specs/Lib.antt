pub mod WhoseRows
pub mod Carriable
