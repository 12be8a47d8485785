pub mod Cells
pub mod Laid
pub mod Matrices
pub mod Numbers
pub mod Sources
