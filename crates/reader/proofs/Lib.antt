pub mod SectionStarts
pub mod Parts
pub mod Once
