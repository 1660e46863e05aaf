-- A reserve's terms lie in the head of a case.
use Prim.Native.Nat.{◌<◌, ◌≤◌}
use native.Mathlib.Omega.{arith}
use Rattle.market.specs.declared.Reserve.{Reserve}
use Rattle.market.specs.declared.Reserve.TheVariants.{Regulating as regulating_reserve, Contingency as contingency_reserve, ShortTerm as short_term_reserve}
use Rattle.market.specs.CaseFile.{pair_place, share_order}

pub pair_in_head : (reserve : Reserve) → pair_place reserve ≤ 20
pair_in_head regulating_reserve = omega arith
pair_in_head contingency_reserve = omega arith
pair_in_head short_term_reserve = omega arith

pub order_of_three : (reserve : Reserve) → share_order reserve < 3
order_of_three regulating_reserve = omega arith
order_of_three contingency_reserve = omega arith
order_of_three short_term_reserve = omega arith
