-- The widths of steps that stand in an array.
use Rattle.std.specs.Prelude.{ℕ, nat_abs}
use Rattle.market.specs.declared.Step.{Step}

abbrev pub widths_of : (ℕ → Step) → ℕ → ℕ
widths_of steps j = nat_abs (steps j).width.0
