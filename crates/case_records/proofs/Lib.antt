pub mod Places
pub mod Ranged
