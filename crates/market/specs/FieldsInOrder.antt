-- The numbers of a file are the figures of its case or certificate, in the order in which 01 lists them: the places of
-- `CaseFile` and `Certificate` and the field lists of `Numbers` describe the same file.
use Rattle.std.specs.Prelude.{◌≡◌, List, [], ◌∷◌, ◌++◌, map, ℕ, ℤ, pos}
use Rattle.arith.specs.Sums.{upto, across, when}
use Rattle.market.specs.Version.{Version, ramping, releasing}
use Rattle.market.specs.Case.{Case, Resource, Curve, zoned_curves, curves, Reserve, regulating_reserve, contingency_reserve, short_term_reserve, energy_steps, curve_steps}
use Rattle.market.specs.CaseFile.{case_of}
use Rattle.market.specs.UpperBounds.{cleared_quantity, provided_quantity, services}
use Rattle.market.specs.Rows.{balance_row, market_row, zone_row, flowgate_row, limit_row, limits}
use Rattle.market.specs.Certificate.{Certificate, certificate_of}
use Rattle.market.specs.Numbers.{case_numbers, certificate_numbers}

-- ---- a case
-- multiplier and minutes of a reserve
abbrev pub pair_figures : Case → Reserve → List ℤ
pair_figures c reserve = pos (c.multiplier reserve) ∷ pos (c.minutes reserve) ∷ []

abbrev pub curve_figures : Case → Curve → List ℤ
curve_figures c k = across (λ j. pos (c.curve_width k j) ∷ pos (c.curve_price k j) ∷ []) (upto curve_steps)

-- shares and market requirements
abbrev pub share_ordered : List Reserve
share_ordered = regulating_reserve ∷ contingency_reserve ∷ short_term_reserve ∷ []

abbrev pub head_figures : Case → List ℤ
head_figures c =
    pos c.resources ∷ pos c.zones ∷ pos c.flowgates ∷ pos c.demand
    ∷ across (pair_figures c) (contingency_reserve ∷ regulating_reserve ∷ short_term_reserve ∷ [])
    ++ (map (λ reserve. pos (c.share reserve)) share_ordered ++ (map (λ reserve. pos (c.requirement reserve)) share_ordered ++ across (curve_figures c) (curves c.version)))

abbrev pub zone_figures : Case → ℕ → List ℤ
zone_figures c z = map (λ k. pos (c.zone_requirement z k)) zoned_curves

abbrev pub resource_figures : Version → Resource → List ℤ
resource_figures version r =
    pos r.kind ∷ pos r.zone ∷ pos r.breaker ∷ pos r.status ∷ pos r.trip ∷ pos r.flags ∷ when (ramping version) (pos r.ramp_flags ∷ [])
    ++ (r.output
    ∷ pos r.economic_min ∷ pos r.economic_max ∷ pos r.regulating_min ∷ pos r.regulating_max ∷ when (releasing version) (pos r.emergency_min ∷ [])
    ++ (pos r.emergency_max
    ∷ pos r.ramp_up ∷ pos r.ramp_down ∷ pos r.ramp_rate
    ∷ pos r.initial ∷ pos r.off_line_response ∷ pos r.off_line_short_term ∷ pos r.self_schedule
    ∷ pos r.regulating_price ∷ pos r.contingency_price ∷ pos r.off_line_short_term_price
    ∷ across (λ j. pos (r.step_width j) ∷ r.step_price j ∷ []) (upto energy_steps)))

abbrev pub flowgate_figures : Case → ℕ → List ℤ
flowgate_figures c f = c.flowgate_limit f ∷ map (c.shift_factor f) (upto c.resources)

abbrev pub case_figures : Case → List ℤ
case_figures c =
    head_figures c
    ++ (across (zone_figures c) (upto c.zones)
    ++ (across (λ i. resource_figures c.version (c.resource i)) (upto c.resources) ++ across (flowgate_figures c) (upto c.flowgates)))

-- ---- a certificate
abbrev pub resource_claims : Certificate → ℕ → List ℤ
resource_claims d i = map (λ s. pos (d.amount (provided_quantity i s))) (services d.version) ++ map (λ l. d.price (limit_row i l)) (limits d.version)

abbrev pub certificate_head_figures : Certificate → List ℤ
certificate_head_figures d =
    pos d.resources ∷ pos d.zones ∷ pos d.flowgates
    ∷ map (λ k. pos (d.amount (cleared_quantity k))) (curves d.version) ++ (d.price balance_row ∷ map (λ k. d.price (market_row k)) (curves d.version))

abbrev pub certificate_figures : Certificate → List ℤ
certificate_figures d =
    certificate_head_figures d
    ++ (across (λ z. map (λ k. d.price (zone_row z k)) zoned_curves) (upto d.zones)
    ++ (map (λ f. d.price (flowgate_row f)) (upto d.flowgates) ++ across (resource_claims d) (upto d.resources)))

pub record FieldsInOrder : Type 0 where
  pub case_in_order : (b : List ℕ) → case_numbers b ≡ case_figures (case_of b)
  pub certificate_in_order : (q : List ℕ) → certificate_numbers q ≡ certificate_figures (certificate_of q)
