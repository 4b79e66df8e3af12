pub mod JobRows
pub mod OfJob
pub mod RecordRows
pub mod NextAsks
pub mod Once
