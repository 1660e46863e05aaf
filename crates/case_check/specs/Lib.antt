pub mod Stages
pub mod Pieces
