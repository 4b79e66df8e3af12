pub mod Choosing
pub mod Taking
pub mod State
pub mod LastEnds
pub mod OneTurn
pub mod AllTurns
pub mod Once
