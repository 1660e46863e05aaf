use mathlib.Core.Path.{◌≡◌}
use Prim.Native.Nat.{◌+◌}
use lib.ListN.{take}
use Rattle.arith.specs.Sums.{total_of}
use Rattle.market.specs.Numbers.{field_width, bytes_of}
use Rattle.wire.specs.Within.{written}
use Rattle.fields.specs.Layout.{fields_of}
use Rattle.write_numbers.proofs.NumberList.put_numbers.Given as goal

abbrev pub invariant-loop-k : goal.invariant-loop-k
invariant-loop-k l =
    record {
      place : l.at ≡ 5 + total_of field_width (take l.k (fields_of l.self.file l.self.counts.version l.self.counts.resources l.self.counts.zones l.self.counts.flowgates));
      stored : l.out ≡ written 5 (bytes_of (take l.k (fields_of l.self.file l.self.counts.version l.self.counts.resources l.self.counts.zones l.self.counts.flowgates)) (take l.k l.self.numbers.now)) l.fn.out;
    }
