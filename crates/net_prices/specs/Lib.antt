pub mod NetPrices
pub mod Sizes
