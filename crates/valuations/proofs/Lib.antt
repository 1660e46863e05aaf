pub mod OffLine
pub mod Known
