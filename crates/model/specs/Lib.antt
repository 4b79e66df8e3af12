-- A file for each section of document 01, in its order; what only computes stands apart, in Compute.
pub mod Model
pub mod File
pub mod Rules
pub mod Answers
pub mod Refusals
pub mod Carry
pub mod Calls
pub mod Report
pub mod Widen
pub mod Compute
