pub mod Figures
pub mod Standing
pub mod ZonePrices
pub mod Written
pub mod PricedCase
pub mod Unique
