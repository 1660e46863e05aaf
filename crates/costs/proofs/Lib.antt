pub mod Filling
pub mod FillingLoop
pub mod Totals
pub mod Known
pub mod OffLine
