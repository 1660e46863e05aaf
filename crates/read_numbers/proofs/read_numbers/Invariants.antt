use mathlib.Core.List.{◌++◌}
use mathlib.Core.Path.{◌≡◌}
use Prim.Native.Nat.{◌+◌}
use lib.ListN.{take, drop}
use Rattle.arith.specs.Sums.{total_of}
use Rattle.market.specs.Numbers.{field_width, numbers_at}
use Rattle.fields.specs.Layout.{fields_of}
use Rattle.read_numbers.proofs.read_numbers.Given as goal

abbrev pub invariant-loop-k : goal.invariant-loop-k
invariant-loop-k l =
    record {
      place : l.at ≡ 5 + total_of field_width (take l.k (fields_of l.file l.n.version l.n.resources l.n.zones l.n.flowgates));
      stored : l.out ≡ numbers_at (take l.k (fields_of l.file l.n.version l.n.resources l.n.zones l.n.flowgates)) l.b 5 ++ drop l.k l.fn.out;
    }
