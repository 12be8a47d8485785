pub mod Blocked
pub mod Combiners
pub mod FuseFaults
pub mod Refusals
pub mod Steps
pub mod Tables
