pub mod WrittenRows
pub mod RunOfTable
