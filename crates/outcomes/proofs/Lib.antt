pub mod Files
pub mod Passing
pub mod Lent
