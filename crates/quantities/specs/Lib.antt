pub mod Filing
pub mod Places
