pub mod RecordLine
pub mod LineIn
pub mod TextTable
pub mod Import
pub mod Export
