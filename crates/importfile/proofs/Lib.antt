pub mod InOrder
pub mod WaysOfImport
pub mod Once
