pub mod Lists
pub mod Newline
pub mod Trees
pub mod Decimals
pub mod Numerals
pub mod Appending
pub mod Rereading
