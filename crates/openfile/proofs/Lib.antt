pub mod WholeOrRefused
pub mod Leading
pub mod Tallied
pub mod WaysOut
pub mod Once
