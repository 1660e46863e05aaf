-- The first quantity above its bound: of the cleared quantities, and block by block through the resources.
use lib.ListN.{length-map}
use Rattle.std.proofs.Common.{◌≡◌, refl, sym, ap, ◌∙◌, ◌+◌, arith, ℕ, Bool, List, [], ◌∷◌, map, length, leb}
use mathlib.Core.Bool.{false}
use lib.Dec.{leb-zero}
use Rattle.units.specs.Search.{first_false, short_tests}
use Rattle.units.proofs.Search.{searched_over_all}
use Rattle.market.specs.declared.Curve.{Curve}
use Rattle.arith.specs.Sums.{upto, across}
use Rattle.market.specs.declared.Refusal.TheVariants.{AboveBound}
use Rattle.market.specs.declared.version.Version.{Version}
use Rattle.market.specs.declared.version.Version.TheVariants.{First as first}
use Rattle.market.specs.Case.{Case, has_curve, curves}
use Rattle.market.specs.UpperBounds.{Service, energy, regulation, contingency, on_line_short_term, off_line_short_term, Quantity, cleared_quantity, provided_quantity, services, quantities, Schedule}
use Rattle.market.specs.Records.{cleared_of}
use Rattle.market.specs.Refusals.{first_failing}
use Rattle.market.proofs.FirstFailing.{or_else, first_append}
use Rattle.quantities.specs.Places.{first_provided, places_each}

-- ---- what a resource provides
abbrev pub provided : Version → ℕ → List Quantity
provided version i = map (provided_quantity i) (services version)

-- in each version so far
abbrev pub five : List Service
five = energy ∷ regulation ∷ contingency ∷ on_line_short_term ∷ off_line_short_term ∷ []

pub provides_five : (version : Version) (i : ℕ) → provided version i ≡ map (provided_quantity i) five
provides_five first i = refl

pub as_many : (version : Version) (i : ℕ) → length (provided version i) ≡ places_each version
as_many version i = length-map (services version) (provided_quantity i)

-- ---- the tests of the code on figures by value
module _ (x u : Schedule) where
  abbrev pub meets : Quantity → Bool
  meets a = leb (x a) (u a)

  -- 0 of a curve that there is not
  pub cleared_tests : (version : Version) → ((k : Curve) → has_curve version k ≡ false → x (cleared_quantity k) ≡ 0) → (n : ℕ) → first_false n (short_tests (cleared_of u) (cleared_of x)) ≡ first_false n (map meets (map cleared_quantity (curves version)))
  unfolding cleared_of
  cleared_tests version none n = searched_over_all cleared_quantity meets (λ k. meets (cleared_quantity k)) version (λ k t. refl) (λ k t. rw (none k t) (leb-zero (u (cleared_quantity k)))) n

-- ---- the cleared quantities, then the resources'
module _ (t : Quantity → Bool) where
  pub in_turn : (c : Case) → or_else (first_failing t AboveBound 1 (map cleared_quantity (curves c.version))) (first_failing t AboveBound (first_provided c.version) (across (provided c.version) (upto c.resources))) ≡ first_failing t AboveBound 1 (quantities c)
  unfolding quantities
  in_turn c =
      let long : 1 + length (map cleared_quantity (curves c.version)) ≡ first_provided c.version = omega (arith, length-map (curves c.version) cleared_quantity) in
      let rest = across (provided c.version) (upto c.resources) in
      sym (first_append t AboveBound 1 (map cleared_quantity (curves c.version)) rest ∙ ap (λ (n : ℕ). or_else (first_failing t AboveBound 1 (map cleared_quantity (curves c.version))) (first_failing t AboveBound n rest)) long)
