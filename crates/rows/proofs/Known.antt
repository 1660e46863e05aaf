-- What the searches of a standing certificate's rows know: sizes, records in range, and the rows family by family.
use Rattle.std.specs.Prelude.{Option, Some, None}
use mathlib.Core.Path.{◌≡◌, refl, sym, ◌∙◌, ap}
use mathlib.Core.Bool.{Bool, true, false}
use mathlib.Core.List.{List, [], ◌∷◌, ◌++◌, map}
use Prim.Native.Nat.{ℕ, ◌+◌, ◌*◌, ◌<◌, ◌≤◌}
use native.Mathlib.Omega.{arith}
use lib.ListN.{length, length-map}
use Rattle.arith.specs.Sums.{sum_of, upto, across}
use Rattle.arith.proofs.Lists.{length-across, length-upto, across-one}
use Rattle.arith.proofs.NaturalSums.{upto-size}
use Rattle.market.specs.declared.Refusal.{Refusal}
use Rattle.market.specs.Case.{Case, zoned_curves, curves}
use Rattle.market.specs.CaseCheck.{most_resources}
use Rattle.market.specs.UpperBounds.{energy}
use Rattle.market.specs.Rows.{Row, balance_row, market_row, zone_row, flowgate_row, market_rows, zone_rows, flowgate_rows, limit_rows, rows, zone_row_count}
use Rattle.market.specs.Certificate.{certificate_of}
use Rattle.market.specs.InWords.{kw_of}
use Rattle.market.specs.Refusals.{Finding, found_at, first_failing}
use Rattle.market.proofs.FirstFailing.{or_else, first_append, first_none, passes, fails}
use Rattle.units.specs.Room.{SumRoom}
use Rattle.flows.specs.Parts.{EnergyBounded}
use Rattle.rows.specs.Tests.{first_zone_row}
use Rattle.units.proofs.Search.{first_here, first_next}

-- ---- energy
pub energy_room : (q : List ℕ) (r : ℕ) → EnergyBounded q r → r ≤ most_resources → (i : ℕ) → i < r → SumRoom (sum_of (λ j. kw_of (certificate_of q).amount j energy) (upto i)) (kw_of (certificate_of q).amount i energy)
energy_room q r e few i h = omega (arith, e.most i h, upto-size (λ j. kw_of (certificate_of q).amount j energy) 2000000 i (λ j l. e.most j (omega arith)))

-- ---- the rows family by family
module _ (c : Case) where
  zone_rows_long : length (zone_rows c) ≡ c.zones * zone_row_count
  zone_rows_long = length-across (λ y. map (zone_row y) zoned_curves) zone_row_count (λ y. refl) (upto c.zones) ∙ ap (λ (m : ℕ). m * zone_row_count) (length-upto c.zones)

  -- a flowgate's row as a block of one
  pub flowgate_blocks : across (λ g. flowgate_row g ∷ []) (upto c.flowgates) ≡ flowgate_rows c
  flowgate_blocks = across-one flowgate_row (upto c.flowgates)

  flowgate_rows_long : length (flowgate_rows c) ≡ c.flowgates
  flowgate_rows_long =
      ap length (sym flowgate_blocks) ∙ length-across (λ g. flowgate_row g ∷ []) 1 (λ g. refl) (upto c.flowgates) ∙ ap (λ (m : ℕ). m * 1) (length-upto c.flowgates) ∙ once c.flowgates
    where
      once : (m : ℕ) → m * 1 ≡ m
      once m = omega arith

-- for any test t of a row and any refusal r by its number
module _ (t : Row → Bool) (r : ℕ → Refusal) (c : Case) where
  abbrev balance_found : Finding
  balance_found = first_failing t r 1 (balance_row ∷ [])

  abbrev market_found : Finding
  market_found = first_failing t r 2 (market_rows c)

  abbrev zones_found : Finding
  zones_found = first_failing t r (first_zone_row c.version) (zone_rows c)

  abbrev network_found : Finding
  network_found = first_failing t r (first_zone_row c.version + c.zones * zone_row_count) (flowgate_rows c ++ limit_rows c)

  market_rows_long : 2 + length (market_rows c) ≡ first_zone_row c.version
  market_rows_long = omega (arith, length-map (curves c.version) market_row)

  rows_first : or_else balance_found (or_else market_found (or_else zones_found network_found)) ≡ first_failing t r 1 (rows c)
  unfolding rows
  rows_first =
      sym
      (first_append t r 1 (balance_row ∷ []) (market_rows c ++ (zone_rows c ++ (flowgate_rows c ++ limit_rows c)))
      ∙ ap (or_else balance_found)
      (first_append t r 2 (market_rows c) (zone_rows c ++ (flowgate_rows c ++ limit_rows c))
      ∙ ap (or_else market_found)
      (ap (λ (n : ℕ). first_failing t r n (zone_rows c ++ (flowgate_rows c ++ limit_rows c))) market_rows_long ∙ first_append t r (first_zone_row c.version) (zone_rows c) (flowgate_rows c ++ limit_rows c) ∙ rw (zone_rows_long c))))

  -- row 1 is broken
  pub balance_broken : t balance_row ≡ false → found_at r (Some 1) ≡ first_failing t r 1 (rows c)
  balance_broken e = first_here r (or_else market_found (or_else zones_found network_found)) (Some 1) (sym (fails t r 1 balance_row [] e)) 1 refl ∙ rows_first

  -- row 1 is met: the market's rows, then the zones', then the others
  module _ (met : t balance_row ≡ true) where
    after_balance : (n : Option ℕ) → found_at r n ≡ or_else market_found (or_else zones_found network_found) → found_at r n ≡ first_failing t r 1 (rows c)
    after_balance n h = first_next r _ None (sym (passes t r 1 balance_row [] met ∙ first_none t r 2)) n refl h ∙ rows_first

    module _ (m : Option ℕ) (h : found_at r m ≡ market_found) where
      pub market_broken : (p : ℕ) → m ≡ Some p → found_at r (Some p) ≡ first_failing t r 1 (rows c)
      market_broken p e = after_balance (Some p) (first_here r _ m h p e)

      module _ (none : m ≡ None) (n : Option ℕ) (k : found_at r n ≡ zones_found) where
        pub zone_broken : (p : ℕ) → n ≡ Some p → found_at r (Some p) ≡ first_failing t r 1 (rows c)
        zone_broken p e = after_balance (Some p) (first_next r _ m h (Some p) none (first_here r network_found n k p e))

        pub rest_broken : (l : Option ℕ) → n ≡ None → found_at r l ≡ network_found → found_at r l ≡ first_failing t r 1 (rows c)
        rest_broken l e j = after_balance l (first_next r _ m h l none (first_next r network_found n k l e j))

  -- the flowgates' rows, numbered from s, and then the resources'
  module _ (s : ℕ) where
    network_first : or_else (first_failing t r s (flowgate_rows c)) (first_failing t r (s + c.flowgates) (limit_rows c)) ≡ first_failing t r s (flowgate_rows c ++ limit_rows c)
    network_first = sym (first_append t r s (flowgate_rows c) (limit_rows c) ∙ rw (flowgate_rows_long c))

    module _ (n : Option ℕ) (h : found_at r n ≡ first_failing t r s (flowgate_rows c)) where
      pub flowgate_broken : (p : ℕ) → n ≡ Some p → found_at r (Some p) ≡ first_failing t r s (flowgate_rows c ++ limit_rows c)
      flowgate_broken p e = first_here r _ n h p e ∙ network_first

      pub limit_broken : (m : Option ℕ) → n ≡ None → found_at r m ≡ first_failing t r (s + c.flowgates) (limit_rows c) → found_at r m ≡ first_failing t r s (flowgate_rows c ++ limit_rows c)
      limit_broken m e k = first_next r _ n h m e k ∙ network_first
