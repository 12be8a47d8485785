pub mod Tree
pub mod Forms
pub mod Texts
pub mod Entries
pub mod Appended
