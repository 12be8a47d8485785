mod Conjugates
mod Room
pub mod Brakets
mod SameMembers
pub mod Putting
