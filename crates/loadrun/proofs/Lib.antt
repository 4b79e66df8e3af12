pub mod RecordNumbers
pub mod SameJobs
pub mod Once
