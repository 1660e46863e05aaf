pub mod Figures
pub mod RowTerms
pub mod PricedSizes
pub mod PricedTerms
