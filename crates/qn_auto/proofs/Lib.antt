pub mod Stages
pub mod FluxLaws
pub mod LinkOrderLaws
pub mod LeftProducts
pub mod ChargeOrder
pub mod Conserves
pub mod Ordered
pub mod Terms
