mod Examples
pub mod ExchangeLaws
pub mod Members
pub mod Names
pub mod Order
pub mod OrderSigns
pub mod Parity
pub mod Positions
pub mod SignLaws
