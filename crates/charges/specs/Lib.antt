pub mod Terms
pub mod Sizes
