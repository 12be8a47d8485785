pub mod Charges
pub mod Ranges
pub mod Firsts
pub mod Faults
pub mod Laws
pub mod Padded
