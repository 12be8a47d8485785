pub mod Admitted
pub mod Counts
pub mod Nets
pub mod Partials
pub mod Places
pub mod Sectors
pub mod Shapes
