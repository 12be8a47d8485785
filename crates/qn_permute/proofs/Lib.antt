mod Columns
mod Lines
pub mod Widths
mod Sorted
mod Moves
mod Shared
