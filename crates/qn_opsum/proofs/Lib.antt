pub mod Products
pub mod StringLaws
pub mod NormalOrder
pub mod Lookups
pub mod Charges
pub mod SiteOrder
