pub mod Entries
pub mod Tables
pub mod Places
pub mod Walk
