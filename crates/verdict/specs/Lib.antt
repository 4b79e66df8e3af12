pub mod RulesFrom
pub mod Late
pub mod Judging
