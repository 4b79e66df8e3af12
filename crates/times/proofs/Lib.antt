pub mod TimesOfRecord
pub mod RowAfterRow
pub mod Once
