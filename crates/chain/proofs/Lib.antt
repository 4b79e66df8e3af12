pub mod FoundInTable
pub mod PutChain
pub mod Rounds
pub mod ChainFits
pub mod Once
