pub mod Gaussian
