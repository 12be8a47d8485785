pub mod Fused
pub mod Pieces
pub mod Contractions
