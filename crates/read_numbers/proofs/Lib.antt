pub mod Stages
pub mod OneMore
pub mod Handed
