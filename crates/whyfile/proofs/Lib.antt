pub mod EachReason
pub mod Once
