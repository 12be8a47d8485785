pub mod Transitions
pub mod ChainSum
pub mod AutomatonProof
pub mod AutomatonChain
pub mod AutomatonValues
pub mod SumValues
pub mod SumElements
pub mod WorkedSums
