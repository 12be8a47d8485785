pub mod ExchangeLaws
pub mod Positions
pub mod Sign
