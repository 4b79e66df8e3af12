pub mod ReasonLeft
