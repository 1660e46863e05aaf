pub mod Known
pub mod Passes
pub mod Written
pub mod SameCounts
