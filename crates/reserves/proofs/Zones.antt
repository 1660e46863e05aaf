-- The totals of the eight zones as resources are added one by one: those of the resource's zone grow by what it gives.
use Rattle.market.specs.declared.PerCurve.{PerCurve}
use Rattle.market.specs.declared.Kw.{Kw}
use mathlib.Core.Path.{◌≡◌}
use mathlib.Core.List.{List}
use Prim.Native.Nat.{ℕ, ◌+◌, ◌-◌, ◌<◌, ◌≤◌}
use native.Mathlib.Omega.{arith}
use lib.IntN.{ℤ}
use lib.ListN.{get_or, set}
use Rattle.market.specs.declared.Curve.{Curve}
use Rattle.market.specs.CaseFile.{case_of}
use Rattle.market.specs.CaseCheck.{most_zones}
use Rattle.market.specs.Certificate.{certificate_of}
use Rattle.market.specs.InWords.{reserve_of, reserve_in_zone}
use Rattle.market.specs.Records.{curve_amounts_of}
use Rattle.prices.specs.Standing.{Standing}
use Rattle.prices.proofs.Known.{zone_from_one, zone_in_case}
use Rattle.reserves.specs.Given.{SumsRoom, added_amounts, zone_total, zone_totals}
use Rattle.reserves.proofs.Known.{at_home, elsewhere, given_in_zone_small}
use Rattle.reserves.proofs.Sums.{sums_more, sums_same, sums_room}
use Rattle.arith.proofs.Tables.{table_entry, table_store}

-- n is the zone of resource i, counted from 1
module _ {b q : List ℕ} {r z f : ℕ} (s : Standing b q r z f) (i n : ℕ) (h : i < r) (e : n ≡ ((case_of b).resource i).zone) where
  abbrev in_zone : ℕ → Curve → ℕ → ℤ
  in_zone y k = reserve_in_zone (case_of b) (certificate_of q).amount y k

  -- what it gives
  abbrev own : (PerCurve Kw)
  own = curve_amounts_of (λ k. reserve_of (case_of b) (certificate_of q).amount k i)

  pub own_zone_from_one : 1 ≤ n
  own_zone_from_one = omega (arith, zone_from_one s.prices h)

  pub zone_below : n - 1 < most_zones
  zone_below = omega (arith, zone_in_case s.prices h, s.prices.case_bytes.counts.most_zones)

  own_in_zone : own ≡ curve_amounts_of (λ k. in_zone (n - 1) k i)
  own_in_zone = at_home (case_of b) (certificate_of q).amount i (n - 1) (omega (arith, own_zone_from_one))

  zone_same : (y : ℕ) → (y ≡ n - 1 → ⊥) → zone_total b q i y ≡ zone_total b q (i + 1) y
  zone_same y l = sums_same (in_zone y) i (elsewhere (case_of b) (certificate_of q).amount i y (λ k. l (omega (arith, own_zone_from_one))))

  -- d is what an array's read gives beyond the end
  module _ (d : (PerCurve Kw)) where
    pub zone_room : SumsRoom (get_or (zone_totals b q i) (n - 1) d) own
    zone_room =
        rw (table_entry d (zone_total b q i) most_zones (n - 1) zone_below, own_in_zone)
        (sums_room (in_zone (n - 1)) r s.prices.case_bytes.counts.most_resources (given_in_zone_small s (n - 1)) i h)

    zone_more : added_amounts (get_or (zone_totals b q i) (n - 1) d) own ≡ zone_total b q (i + 1) (n - 1)
    zone_more = rw (table_entry d (zone_total b q i) most_zones (n - 1) zone_below, own_in_zone) (sums_more (in_zone (n - 1)) i)

    pub zones_more : set (zone_totals b q i) (n - 1) (added_amounts (get_or (zone_totals b q i) (n - 1) d) own) ≡ zone_totals b q (i + 1)
    zones_more = table_store d (zone_total b q i) (zone_total b q (i + 1)) most_zones (n - 1) (added_amounts (get_or (zone_totals b q i) (n - 1) d) own) zone_more zone_same
