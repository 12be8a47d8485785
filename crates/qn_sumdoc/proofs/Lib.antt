pub mod Entries
pub mod SiteLegs
pub mod OffCharge
pub mod KindNames
pub mod OwnSites
pub mod Rows
pub mod StateChains
