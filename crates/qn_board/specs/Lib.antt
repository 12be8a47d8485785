pub mod Lists
pub mod Seats
pub mod Machine
pub mod Sound
pub mod Laws
pub mod Worked
pub mod Board
