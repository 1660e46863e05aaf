-- The LMPs that `write_lmps` has written, one by one.
use mathlib.Core.Path.{◌≡◌, ap, ◌∙◌}
use mathlib.Core.List.{List, map, ◌++◌}
use Prim.Native.Nat.{ℕ}
use native.Mathlib.Omega.{arith}
use lib.IntN.{ℤ, pos}
use lib.ListN.{length, get_or, length-append}
use Rattle.arith.specs.Sums.{upto}
use Rattle.arith.proofs.Tables.{table_length, front_entry}
use Rattle.market.specs.CaseFile.{case_of}
use Rattle.market.specs.Certificate.{certificate_of}
use Rattle.market.specs.Prices.{lmp_of}
use Rattle.prices.specs.Written.{Lmps}

pub lmps_written : (b q : List ℕ) (r : ℕ) (lmps rest : List ℤ) → lmps ≡ map (lmp_of (case_of b) (certificate_of q).price) (upto r) ++ rest → Lmps b q r lmps
lmps_written b q r lmps rest e =
    let g = lmp_of (case_of b) (certificate_of q).price in
    record {
      room = omega (arith, ap length e, length-append (map g (upto r)) rest, table_length g r);
      each = λ i l. ap (λ (xs : List ℤ). get_or xs i (pos 0)) e ∙ front_entry (pos 0) g r rest i l;
    }
