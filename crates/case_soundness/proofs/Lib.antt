pub mod Tests
pub mod Steps
mod Ranks
mod Parts
