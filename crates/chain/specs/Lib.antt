pub mod ChainTold
