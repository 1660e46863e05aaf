pub mod Steps
pub mod Worth
