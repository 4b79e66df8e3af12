pub mod EachAnswer
pub mod JobsTold
pub mod Once
