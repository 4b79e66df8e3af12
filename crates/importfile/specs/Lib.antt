pub mod LeftByImport
pub mod Importable
