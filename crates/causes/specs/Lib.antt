pub mod Cause
pub mod FoundCause
pub mod Why
