pub mod ColumnsApart
pub mod LentLaws
pub mod OneRow
pub mod Once
