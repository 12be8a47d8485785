pub mod Draws
pub mod DrawnBlocks
pub mod LinkSectors
pub mod Limits
pub mod TermLists
pub mod FermionSums
pub mod DrawnChains
pub mod Wholes
