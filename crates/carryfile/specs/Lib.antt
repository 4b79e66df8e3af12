pub mod ToldAndWritten
