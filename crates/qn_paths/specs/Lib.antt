pub mod Paths
pub mod Sums
pub mod Examples
