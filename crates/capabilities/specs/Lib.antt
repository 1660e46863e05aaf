pub mod Kept
pub mod Sizes
