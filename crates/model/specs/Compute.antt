-- Helpers that compute. Each is proved to say what the readable definition says.
pub mod Limits
pub mod Places
pub mod Verdict
pub mod Jumps
