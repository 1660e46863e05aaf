pub mod FileBytes
pub mod Reading
