pub mod Objects
pub mod Operators
pub mod Sites
pub mod Terms
pub mod Sums
pub mod Chains
pub mod StatesValues
pub mod States
