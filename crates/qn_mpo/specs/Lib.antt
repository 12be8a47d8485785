pub mod Builds
pub mod Links
pub mod OperatorRules
pub mod Rows
pub mod Sizes
pub mod States
pub mod Sums
pub mod Tables
