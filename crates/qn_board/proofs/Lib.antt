pub mod Counting
pub mod Seating
pub mod Keeps
pub mod Settles
pub mod Acting
pub mod Boarding
pub mod Tried
