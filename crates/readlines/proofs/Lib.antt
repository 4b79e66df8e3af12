pub mod SixNumbers
pub mod Marks
pub mod LineByLine
pub mod Once
