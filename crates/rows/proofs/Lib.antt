pub mod Tests
pub mod Known
