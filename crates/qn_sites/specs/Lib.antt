pub mod KindRows
pub mod Kinds
pub mod Operators
pub mod Refusals
pub mod Sites
