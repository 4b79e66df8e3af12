pub mod Decimal
pub mod DigitByDigit
pub mod NumberFirst
pub mod Once
