pub mod Fitting
pub mod Walked
pub mod Stored
pub mod Stages
pub mod Handed
