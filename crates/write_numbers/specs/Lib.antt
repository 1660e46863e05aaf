pub mod InList
pub mod Listed
pub mod Writing
