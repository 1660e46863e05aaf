pub mod Sizes
pub mod Terms
