-- The lists that ask for the version, by membership; and what no version has yet.
use mathlib.Core.Path.{◌≡◌, refl, sym, ap, subst, ◌∙◌}
use mathlib.Core.Bool.{Bool, true, false, cond}
use mathlib.Core.List.{List}
use Prim.Native.Nat.{ℕ, ◌≤◌}
use native.Mathlib.Omega.{arith}
use lib.Dec.{T}
use lib.IntN.{ℤ, pos}
use Rattle.arith.specs.Sums.{total_of, Each, kept, sum_of}
use Rattle.arith.proofs.Lists.{each-any}
use Rattle.arith.proofs.Sums.{sum-ext}
use Rattle.arith.proofs.Kept.{each-kept, of_kept, total_kept, sum-kept}
use Rattle.market.specs.Version.{Version, first, ramping, storing}
use Rattle.market.specs.Case.{Curve, operating, regulating_plus_spinning, regulating, short_term, all_curves, zoned_curves, zoned, curves, has_curve}
use Rattle.market.specs.UpperBounds.{Service, energy, regulation, contingency, on_line_short_term, off_line_short_term, ramping_up, ramping_down, charging, all_services, services, has_service}
use Rattle.market.specs.Rows.{Limit, max_with_reserve, max_with_short_term, minimum, high, low, all_limits, limits, has_limit}
use Rattle.market.specs.Membership.{Membership}

pub membership : Membership
unfolding kept
membership = record { zoned_kept = refl; curves_kept = curves_kept; services_kept = services_kept; limits_kept = limits_kept }
  where
    services_kept : (version : Version) → services version ≡ kept (has_service version) all_services
    services_kept first = refl

    curves_kept : (version : Version) → curves version ≡ kept (has_curve version) all_curves
    curves_kept first = refl

    limits_kept : (version : Version) → limits version ≡ kept (has_limit version) all_limits
    limits_kept first = refl

-- ---- a statement of each of all, at one of them
at_any_curve : (P : Curve → Type 0) → Each P all_curves → (k : Curve) → P k
at_any_curve P h operating = h.0
at_any_curve P h regulating_plus_spinning = h.1.0
at_any_curve P h regulating = h.1.1.0
at_any_curve P h short_term = h.1.1.1.0

at_any_service : (P : Service → Type 0) → Each P all_services → (s : Service) → P s
at_any_service P h energy = h.0
at_any_service P h regulation = h.1.0
at_any_service P h contingency = h.1.1.0
at_any_service P h on_line_short_term = h.1.1.1.0
at_any_service P h off_line_short_term = h.1.1.1.1.0
at_any_service P h ramping_up = h.1.1.1.1.1.0
at_any_service P h ramping_down = h.1.1.1.1.1.1.0
at_any_service P h charging = h.1.1.1.1.1.1.1.0

at_any_limit : (P : Limit → Type 0) → Each P all_limits → (l : Limit) → P l
at_any_limit P h max_with_reserve = h.0
at_any_limit P h max_with_short_term = h.1.0
at_any_limit P h minimum = h.1.1.0
at_any_limit P h high = h.1.1.1.0
at_any_limit P h low = h.1.1.1.1.0

-- ---- a list by what it keeps of all: from a statement of each that is kept, and to one
module _ {A : Type 0} (P : A → Type 0) (t : A → Bool) (all : List A) {xs : List A} (e : xs ≡ kept t all) where
  each_of : ((x : A) → T (t x) → P x) → Each P xs
  each_of h = subst (Each P) (sym e) (each-kept t P all (each-any (λ x. T (t x) → P x) all h))

  of_each : Each P xs → Each (λ x. T (t x) → P x) all
  of_each h = of_kept t P all (subst (Each P) e h)

module _ (P : Curve → Type 0) where
  pub each_zoned : ((k : Curve) → T (zoned k) → P k) → Each P zoned_curves
  each_zoned = each_of P zoned all_curves membership.zoned_kept

  pub at_zoned : Each P zoned_curves → (k : Curve) → T (zoned k) → P k
  at_zoned h = at_any_curve (λ k. T (zoned k) → P k) (of_each P zoned all_curves membership.zoned_kept h)

module _ (version : Version) where
  module _ (P : Curve → Type 0) where
    pub each_curve : ((k : Curve) → T (has_curve version k) → P k) → Each P (curves version)
    each_curve = each_of P (has_curve version) all_curves (membership.curves_kept version)

    pub at_curve : Each P (curves version) → (k : Curve) → T (has_curve version k) → P k
    at_curve h = at_any_curve (λ k. T (has_curve version k) → P k) (of_each P (has_curve version) all_curves (membership.curves_kept version) h)

  module _ (P : Service → Type 0) where
    pub each_service : ((s : Service) → T (has_service version s) → P s) → Each P (services version)
    each_service = each_of P (has_service version) all_services (membership.services_kept version)

    pub at_service : Each P (services version) → (s : Service) → T (has_service version s) → P s
    at_service h = at_any_service (λ s. T (has_service version s) → P s) (of_each P (has_service version) all_services (membership.services_kept version) h)

  module _ (P : Limit → Type 0) where
    pub each_limit : ((l : Limit) → T (has_limit version l) → P l) → Each P (limits version)
    each_limit = each_of P (has_limit version) all_limits (membership.limits_kept version)

    pub at_limit : Each P (limits version) → (l : Limit) → T (has_limit version l) → P l
    at_limit h = at_any_limit (λ l. T (has_limit version l) → P l) (of_each P (has_limit version) all_limits (membership.limits_kept version) h)

  -- ---- totals over all of them are no smaller
  pub curves_most : (f : Curve → ℕ) → total_of f (curves version) ≤ total_of f all_curves
  curves_most f = omega (arith, ap (total_of f) (membership.curves_kept version), total_kept (has_curve version) f all_curves)

  pub services_most : (f : Service → ℕ) → total_of f (services version) ≤ total_of f all_services
  services_most f = omega (arith, ap (total_of f) (membership.services_kept version), total_kept (has_service version) f all_services)

  pub limits_most : (f : Limit → ℕ) → total_of f (limits version) ≤ total_of f all_limits
  limits_most f = omega (arith, ap (total_of f) (membership.limits_kept version), total_kept (has_limit version) f all_limits)

-- what is 0 of a curve that the version has not, may be summed over all
pub summed_over_all : (version : Version) (f : Curve → ℤ) → ((k : Curve) → has_curve version k ≡ false → f k ≡ pos 0) → sum_of f (curves version) ≡ sum_of f all_curves
summed_over_all version f h =
    ap (sum_of f) (membership.curves_kept version)
    ∙ sum-kept (has_curve version) f all_curves
    ∙ sum-ext (λ k. cond (has_curve version k) (f k) (pos 0)) f (λ k. go k (has_curve version k) refl) all_curves
  where
    go : (k : Curve) (t : Bool) → has_curve version k ≡ t → cond t (f k) (pos 0) ≡ f k
    go k true e = refl
    go k false e = sym (h k e)

-- a curve that zones have, every version has
pub zoned_is_curve : (version : Version) (k : Curve) → T (zoned k) → T (has_curve version k)
zoned_is_curve version operating h = tt
zoned_is_curve version regulating_plus_spinning h = tt
zoned_is_curve version regulating h = tt
zoned_is_curve version short_term h = tt

-- ---- what no version has yet: a law goes with the request that brings it
pub no_ramping : (version : Version) → T (ramping version) → ⊥
no_ramping first h = h

pub no_storing : (version : Version) → T (storing version) → ⊥
no_storing first h = h

pub all_four_curves : (version : Version) (k : Curve) → T (has_curve version k)
all_four_curves version operating = tt
all_four_curves version regulating_plus_spinning = tt
all_four_curves version regulating = tt
all_four_curves version short_term = tt

pub all_zoned : (k : Curve) → T (zoned k)
all_zoned operating = tt
all_zoned regulating_plus_spinning = tt
all_zoned regulating = tt
all_zoned short_term = tt

pub one_version : (version version' : Version) → version ≡ version'
one_version first first = refl
