pub mod Axes
pub mod Moved
