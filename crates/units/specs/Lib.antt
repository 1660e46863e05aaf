pub mod Room
pub mod Search
pub mod Sized
