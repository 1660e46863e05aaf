-- Factors in either order, for the attributes in src/.
pub use native.Mathlib.Nat.{mul_comm}

pub ruleset factors = (mul_comm)
