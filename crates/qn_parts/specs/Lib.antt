pub mod Faults
pub mod Tree
pub mod Groups
pub mod Sectors
pub mod Tensors
pub mod Documents
pub mod TensorTexts
