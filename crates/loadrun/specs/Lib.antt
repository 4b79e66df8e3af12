pub mod OtherJob
pub mod Loading
