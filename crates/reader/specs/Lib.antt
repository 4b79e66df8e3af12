pub mod LentFile
