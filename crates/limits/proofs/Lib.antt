pub mod ByKind
pub mod Factors
pub mod Widths
pub mod Products
pub mod Extremes
pub mod WhichBounds
