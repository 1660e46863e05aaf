pub mod Forms
pub mod PriceFamilies
mod PricesWithin
