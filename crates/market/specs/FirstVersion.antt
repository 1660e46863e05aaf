-- Version 1 is document 01's: its lists, and the fields of its files, as that paper has them. A file of version 1 is read as with none of
-- what other versions add (02, request 3).
use Rattle.std.specs.Prelude.{◌≡◌, List, [], ◌∷◌, ◌++◌, map, ℕ, replicate}
use Rattle.arith.specs.Sums.{upto, across}
use Rattle.market.specs.Version.{first, version_of}
use Rattle.market.specs.Case.{Case, Curve, operating, regulating_plus_spinning, regulating, short_term, curves, energy_steps, curve_steps}
use Rattle.market.specs.UpperBounds.{Service, energy, regulation, contingency, on_line_short_term, off_line_short_term, services, cleared_quantity, provided_quantity, quantities}
use Rattle.market.specs.Rows.{rows, balance_row, market_row, zone_row, flowgate_row, Limit, max_with_reserve, max_with_short_term, minimum, high, low, limits, limit_row}
use Rattle.market.specs.Cost.{priced_energy_step, priced_whole, priced_curve_step, priced}
use Rattle.market.specs.Numbers.{u8, u16, u32, i16, i32, times, case_fields, certificate_fields}

abbrev pub four_curves : List Curve
four_curves = operating ∷ regulating_plus_spinning ∷ regulating ∷ short_term ∷ []

abbrev pub four_reserves : List Service
four_reserves = regulation ∷ contingency ∷ on_line_short_term ∷ off_line_short_term ∷ []

abbrev pub five_limits : List Limit
five_limits = max_with_reserve ∷ max_with_short_term ∷ minimum ∷ high ∷ low ∷ []

-- of a case of version 1
pub record FirstLists (c : Case) : Type 0 where
  pub rows_are : rows c
      ≡ balance_row ∷ map market_row four_curves
      ++ (across (λ z. map (zone_row z) four_curves) (upto c.zones) ++ (map flowgate_row (upto c.flowgates) ++ across (λ i. map (limit_row i) five_limits) (upto c.resources)))
  pub quantities_are : quantities c ≡ map cleared_quantity four_curves ++ across (λ i. map (provided_quantity i) (energy ∷ four_reserves)) (upto c.resources)
  pub priced_are : priced c
      ≡ across (λ i. map (priced_energy_step i) (upto energy_steps) ++ map (priced_whole i) four_reserves) (upto c.resources)
      ++ across (λ k. map (priced_curve_step k) (upto curve_steps)) four_curves

pub record FirstVersion : Type 0 where
  pub version_is : version_of 1 ≡ first
  pub curves_are : curves first ≡ four_curves
  pub services_are : services first ≡ energy ∷ four_reserves
  pub limits_are : limits first ≡ five_limits
  pub lists_are : (c : Case) → c.version ≡ first → FirstLists c
  -- after length and version: counts, demand, nine figures of 16 bits, requirements and curves; zones; resources; flowgates
  pub case_fields : (r z f : ℕ) → case_fields first r z f
      ≡ (u8 ∷ u8 ∷ u8 ∷ u32 ∷ replicate 9 u16 ++ replicate 35 u32)
      ++ (times z (replicate 4 u32) ++ (times r (replicate 6 u8 ++ (i32 ∷ replicate 16 u32 ++ times 10 (u32 ∷ i32 ∷ []))) ++ times f (i32 ∷ replicate r i16)))
  -- counts, cleared quantities, prices of row 1 and of rows 2 to 5; zones; flowgates; resources
  pub certificate_fields : (r z f : ℕ) → certificate_fields first r z f
      ≡ (u8 ∷ u8 ∷ u8 ∷ replicate 4 u32 ++ (i32 ∷ replicate 4 u32)) ++ (times z (replicate 4 u32) ++ (times f (u32 ∷ []) ++ times r (replicate 10 u32)))
