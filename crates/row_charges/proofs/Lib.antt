pub mod FromRecords
pub mod Fit
pub mod Written
