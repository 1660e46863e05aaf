pub mod Sums
pub mod LinearProgramme
