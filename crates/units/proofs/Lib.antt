pub mod Search
pub mod Least
