pub mod Evaluated
pub mod Fusing
pub mod Labels
pub mod Parts
pub mod Carrying
pub mod Twisting
