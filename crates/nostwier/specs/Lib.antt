pub mod Reported
pub mod Transferred
