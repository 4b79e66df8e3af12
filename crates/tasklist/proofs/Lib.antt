pub mod Plan
pub mod StoredInTurn
pub mod Once
