pub mod Asked
pub mod Examples
pub mod Keys
pub mod LegRules
pub mod Meaning
pub mod Rules
