mod Digits
pub mod Ring
pub mod Conjugate
pub mod Size
pub mod Signs
