pub mod Dims
pub mod Ranges
pub mod BlockWalk
pub mod GroupSize
pub mod Accepted
pub mod Depths
pub mod Noted
