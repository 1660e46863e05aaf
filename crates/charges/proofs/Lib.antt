pub mod Fit
pub mod StepCharges
pub mod Families
pub mod Known
pub mod OffLine
