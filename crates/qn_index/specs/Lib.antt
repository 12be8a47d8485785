pub mod Extents
pub mod Legs
pub mod Places
pub mod Refusals
pub mod Tuples
pub mod Weights
