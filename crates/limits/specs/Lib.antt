pub mod ByKind
pub mod InRange
pub mod Together
pub mod Widths
