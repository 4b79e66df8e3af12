pub mod RulesFrom
pub mod Lateness
pub mod Tied
pub mod Once
