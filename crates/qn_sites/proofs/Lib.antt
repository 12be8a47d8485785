pub mod Lookup
pub mod OnFlux
pub mod Fits
pub mod Ascents
pub mod Made
pub mod KindFacts
