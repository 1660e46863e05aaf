pub mod Sound
pub mod Ranks
