mod Places
pub mod Passing
