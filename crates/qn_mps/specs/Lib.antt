pub mod Chains
pub mod Labels
pub mod Networks
pub mod Refusals
pub mod SameNetworks
pub mod StandardLinks
