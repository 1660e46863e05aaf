pub mod Known
pub mod Sums
pub mod Zones
