-- The resource of the worked interval tripped, off-line and on-line: which of the three it is, its upper bounds, and checks of it
-- (02, request 2, with case (i) as it now reads).
use Rattle.std.specs.Prelude.{List, [], ◌∷◌, map, ◌≡◌, ℕ, ℤ, pos}
use Rattle.market.specs.declared.Availability.TheVariants.{OnLine, OffLine, Tripped}
use Rattle.market.specs.CaseFile.{case_of}
use Rattle.market.specs.UpperBounds.{services, service_bound}
use Rattle.market.specs.Numbers.{u32_bytes}
use Rattle.market.specs.Interval.{worked_k, worked_q, demand_to, output_to, trip_to, breaker_open, kind2_committed, kind3_available, offers_off_line, energy_to, contingency_to, off_line_short_term_to}
use Rattle.market.specs.Worked.{Example, availability_in, run, accepted, refused}

pub record Trips : Type 0 where
  -- (i)
  pub tripped_at_15 : availability_in (trip_to 15 worked_k) ≡ Tripped
  pub on_line_at_16 : availability_in (trip_to 16 worked_k) ≡ OnLine
  -- breaker and output are not looked at before
  pub tripped_with_open_breaker : availability_in (breaker_open (trip_to 15 worked_k)) ≡ Tripped
  pub tripped_without_output : availability_in (output_to (u32_bytes 0) (trip_to 0 worked_k)) ≡ Tripped
  pub off_line_at_16 : availability_in (breaker_open (trip_to 16 worked_k)) ≡ OffLine
  -- other kinds never trip
  pub intermittent_at_15 : availability_in (trip_to 15 (kind2_committed worked_k)) ≡ OnLine
  pub external_at_15 : availability_in (trip_to 15 (kind3_available worked_k)) ≡ OnLine
  pub external_off_line_at_15 : availability_in (breaker_open (trip_to 15 (kind3_available worked_k))) ≡ OffLine

-- of e, g, c, s, o
abbrev pub bounds_in : List ℕ → List ℤ
bounds_in b = let c = case_of b in map (λ s. pos (service_bound c (c.resource 0) s)) (services c.version)

abbrev pub tripped_units : List Example
tripped_units =
    -- off-line reserves are offered: off-line, tripped
    record { given = bounds_in (offers_off_line (breaker_open (trip_to 16 worked_k))); says = pos 0 ∷ pos 0 ∷ pos 25000 ∷ pos 0 ∷ pos 20000 ∷ [] }
    ∷ record { given = bounds_in (offers_off_line (breaker_open (trip_to 15 worked_k))); says = pos 0 ∷ pos 0 ∷ pos 0 ∷ pos 0 ∷ pos 0 ∷ [] }
    -- the same, in a check of 10,000 kW of o, then of c
    ∷ record { given = run (offers_off_line (demand_to 0 (breaker_open (trip_to 16 worked_k)))) (energy_to 0 (off_line_short_term_to 10000 worked_q)); says = accepted 0 0 0 }
    ∷ record { given = run (offers_off_line (demand_to 0 (breaker_open (trip_to 15 worked_k)))) (energy_to 0 (off_line_short_term_to 10000 worked_q)); says = refused 13 9 }
    ∷ record { given = run (offers_off_line (demand_to 0 (breaker_open (trip_to 16 worked_k)))) (energy_to 0 (contingency_to 10000 worked_q)); says = accepted 0 0 0 }
    ∷ record { given = run (offers_off_line (demand_to 0 (breaker_open (trip_to 15 worked_k)))) (energy_to 0 (contingency_to 10000 worked_q)); says = refused 13 7 }
    -- (a), tripped; and with no demand: at row 1's price it would sell a step that had an upper bound above 0
    ∷ record { given = run (trip_to 15 worked_k) worked_q; says = refused 13 5 }
    ∷ record { given = run (demand_to 0 (trip_to 15 worked_k)) (energy_to 0 worked_q); says = accepted 0 0 0 }
    ∷ []
