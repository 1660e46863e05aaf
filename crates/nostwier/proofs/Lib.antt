pub mod Reporting
pub mod Counting
