pub mod WhoseEnd
pub mod Pigeons
pub mod ChainCloses
pub mod WhyAnswers
pub mod ReasonTable
