mod Added
pub mod Conditions
pub mod Counted
mod Indexing
mod LeftSizes
mod Lefts
pub mod OpenLegs
mod Paired
mod Radix
pub mod Sharing
mod Summing
