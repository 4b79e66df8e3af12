pub mod LineBytes
pub mod InStartOrder
pub mod RisesOrStays
pub mod EachOutcome
pub mod Once
