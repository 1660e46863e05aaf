pub mod Passing
mod Above
