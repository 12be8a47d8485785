pub mod Adapter
pub mod Faults
pub mod InMemory
pub mod Reading
