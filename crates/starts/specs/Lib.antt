pub mod Opened
pub mod Choice
pub mod Cores
pub mod CoreGiven
