pub mod Brakets
pub mod ChainLabels
pub mod ChainLaws
pub mod Chains
pub mod Conjugates
pub mod Examples
pub mod OperatorSigns
pub mod Pieces
