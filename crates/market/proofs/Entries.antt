-- Products with the table's entries, and a resource's terms in a row.
use mathlib.Core.Path.{◌≡◌, refl, ap, ◌∙◌}
use mathlib.Core.Bool.{Bool, true, false, cond}
use native.Mathlib.Omega.{arith}
use lib.Dec.{T, eqb}
use lib.IntN.{ℤ, pos, neg_ℤ, ◌+ℤ◌, ◌*ℤ◌, ◌-ℤ◌, *ℤ-zero, zero-*ℤ, +ℤ_idl, +ℤ_idr, +ℤ_assoc, neg_ℤ-+ℤ, *ℤ_comm}
use Rattle.arith.specs.Sums.{sum_of}
use Rattle.arith.proofs.Kept.{sum-kept}
use Rattle.arith.proofs.Linear.{sorted, count}
use Rattle.market.specs.Version.{Version, first}
use Rattle.market.specs.Case.{Resource, Curve, operating, regulating_plus_spinning, regulating, short_term, all_curves, zoned_curves, curves, has_curve, curve_number}
use Rattle.market.specs.UpperBounds.{Service, energy, regulation, contingency, on_line_short_term, off_line_short_term, ramping_up, ramping_down, charging, services}
use Rattle.market.specs.Rows.{Limit, max_with_reserve, max_with_short_term, minimum, high, low, limits, none, one, minus_one, entries, spins, in_reserve, in_limit, is_spinning}
use Rattle.market.specs.InWords.{reserve_given}
use Rattle.market.proofs.Versions.{membership}

pub none-* : (a : ℤ) → none *ℤ a ≡ pos 0
unfolding none
none-* a = zero-*ℤ a

pub one-* : (a : ℤ) → one *ℤ a ≡ a
unfolding one
one-* a = simp sorted (simp count (omega arith))

minus-one-* : (a : ℤ) → minus_one *ℤ a ≡ neg_ℤ a
unfolding minus_one
minus-one-* a = simp sorted (simp count (omega arith))

pub *-none : (a : ℤ) → a *ℤ none ≡ pos 0
unfolding none
*-none a = *ℤ-zero a

pub *-one : (a : ℤ) → a *ℤ one ≡ a
*-one a = *ℤ_comm a one ∙ one-* a

*-minus-one : (a : ℤ) → a *ℤ minus_one ≡ neg_ℤ a
*-minus-one a = *ℤ_comm a minus_one ∙ minus-one-* a

neg-none : neg_ℤ none ≡ none
unfolding none
neg-none = refl

neg-one : neg_ℤ one ≡ minus_one
unfolding one minus_one
neg-one = refl

neg_minus_one : neg_ℤ minus_one ≡ one
unfolding one minus_one
neg_minus_one = refl

ruleset units = (none-*, one-*, minus-one-*, *-none, *-one, *-minus-one, +ℤ_idl, +ℤ_idr)

if-* : (t : Bool) (a : ℤ) → cond t one none *ℤ a ≡ cond t a (pos 0)
if-* true a = one-* a
if-* false a = none-* a

*-if : (t : Bool) (a : ℤ) → a *ℤ cond t one none ≡ cond t a (pos 0)
*-if true a = *-one a
*-if false a = *-none a

-- ---- a row's terms over a resource's services, with amounts v
-- e alone
pub energy_term : (version : Version) (a : ℤ) (v : Service → ℤ) → sum_of (λ s. entries a none none none none none none s *ℤ v s) (services version) ≡ a *ℤ v energy
unfolding sum_of entries
energy_term first a v = simp units

pub reserve_term : (version : Version) (r : Resource) (k : Curve) (v : Service → ℤ) → sum_of (λ s. in_reserve r k s *ℤ v s) (services version) ≡ reserve_given r k v
unfolding sum_of entries in_reserve spins
reserve_term first r operating v = simp units
reserve_term first r regulating_plus_spinning v = simp (units, if-*)
reserve_term first r regulating v = simp units
reserve_term first r short_term v = simp units

abbrev pub limit_term : Limit → (Service → ℤ) → ℤ
limit_term max_with_reserve v = neg_ℤ (v energy +ℤ v regulation +ℤ v contingency)
limit_term max_with_short_term v = neg_ℤ (v energy +ℤ v on_line_short_term)
limit_term minimum v = v energy -ℤ v regulation
limit_term high v = neg_ℤ (v energy)
limit_term low v = v energy

pub limit_term_lem : (version : Version) (l : Limit) (v : Service → ℤ) → sum_of (λ s. in_limit l s *ℤ v s) (services version) ≡ limit_term l v
unfolding sum_of entries in_limit
limit_term_lem first max_with_reserve v = simp (units, neg_ℤ-+ℤ, +ℤ_assoc)
limit_term_lem first max_with_short_term v = simp (units, neg_ℤ-+ℤ)
limit_term_lem first minimum v = simp units
limit_term_lem first high v = simp units
limit_term_lem first low v = simp units

-- ---- over the cleared quantities: each stands in its own market row
pub cleared_term : (version : Version) (v : Curve → ℤ) (k : Curve) → T (has_curve version k) → sum_of (λ l. cond (eqb (curve_number k) (curve_number l)) minus_one none *ℤ v l) (curves version) ≡ neg_ℤ (v k)
unfolding sum_of
cleared_term first v operating t = simp units
cleared_term first v regulating_plus_spinning t = simp units
cleared_term first v regulating t = simp units
cleared_term first v short_term t = simp units

pub cleared_price : (version : Version) (y : Curve → ℤ) (k : Curve) → T (has_curve version k) → sum_of (λ l. y l *ℤ cond (eqb (curve_number l) (curve_number k)) minus_one none) (curves version) ≡ neg_ℤ (y k)
unfolding sum_of
cleared_price first y operating t = simp units
cleared_price first y regulating_plus_spinning t = simp units
cleared_price first y regulating t = simp units
cleared_price first y short_term t = simp units

-- ---- prices y of the reserve rows, the market's or a zone's, or of a resource's own, on one service
abbrev pub reserve_price : Resource → (Curve → ℤ) → Service → ℤ
reserve_price r y energy = pos 0
reserve_price r y regulation = y operating +ℤ y regulating_plus_spinning +ℤ y regulating
reserve_price r y contingency = y operating +ℤ cond (is_spinning r) (y regulating_plus_spinning) (pos 0)
reserve_price r y on_line_short_term = y short_term
reserve_price r y off_line_short_term = y short_term
reserve_price r y ramping_up = pos 0
reserve_price r y ramping_down = pos 0
reserve_price r y charging = pos 0

pub zone_price : (r : Resource) (y : Curve → ℤ) (s : Service) → sum_of (λ k. y k *ℤ in_reserve r k s) zoned_curves ≡ reserve_price r y s
unfolding sum_of in_reserve entries spins
zone_price r y energy = simp units
zone_price r y regulation = simp (units, +ℤ_assoc)
zone_price r y contingency = simp (units, *-if)
zone_price r y on_line_short_term = simp units
zone_price r y off_line_short_term = simp units
zone_price r y ramping_up = simp units
zone_price r y ramping_down = simp units
zone_price r y charging = simp (neg-none, units)

pub market_price : (version : Version) (r : Resource) (y : Curve → ℤ) (s : Service) → sum_of (λ k. y k *ℤ in_reserve r k s) (curves version) ≡ reserve_price r y s
unfolding sum_of
market_price version r y s = ap (sum_of (λ k. y k *ℤ in_reserve r k s)) (membership.curves_kept version) ∙ sum-kept (has_curve version) (λ k. y k *ℤ in_reserve r k s) all_curves ∙ zone_price r y s

abbrev pub limit_price : (Limit → ℤ) → Service → ℤ
limit_price y energy = y minimum +ℤ y low -ℤ (y max_with_reserve +ℤ y max_with_short_term +ℤ y high)
limit_price y regulation = neg_ℤ (y max_with_reserve +ℤ y minimum)
limit_price y contingency = neg_ℤ (y max_with_reserve)
limit_price y on_line_short_term = neg_ℤ (y max_with_short_term)
limit_price y off_line_short_term = pos 0
limit_price y ramping_up = neg_ℤ (y max_with_reserve)
limit_price y ramping_down = neg_ℤ (y minimum)
limit_price y charging = y max_with_reserve +ℤ y max_with_short_term +ℤ y high -ℤ (y minimum +ℤ y low)

pub limit_price_lem : (version : Version) (y : Limit → ℤ) (s : Service) → sum_of (λ l. y l *ℤ in_limit l s) (limits version) ≡ limit_price y s
unfolding sum_of in_limit entries
limit_price_lem version y energy = simp units (ring (y max_with_reserve) (y max_with_short_term) (y minimum) (y high) (y low))
  where
    ring : (a b c d e : ℤ) → neg_ℤ a +ℤ (neg_ℤ b +ℤ (c +ℤ (neg_ℤ d +ℤ e))) ≡ c +ℤ e -ℤ (a +ℤ b +ℤ d)
    ring a b c d e = simp sorted (simp count (omega arith))
limit_price_lem version y regulation = simp (units, neg_ℤ-+ℤ)
limit_price_lem version y contingency = simp units
limit_price_lem version y on_line_short_term = simp units
limit_price_lem version y off_line_short_term = simp units
limit_price_lem version y ramping_up = simp units
limit_price_lem version y ramping_down = simp units
limit_price_lem version y charging = simp (neg-one, neg_minus_one, units) (ring (y max_with_reserve) (y max_with_short_term) (y minimum) (y high) (y low))
  where
    ring : (a b c d e : ℤ) → a +ℤ (b +ℤ (neg_ℤ c +ℤ (d +ℤ neg_ℤ e))) ≡ a +ℤ b +ℤ d -ℤ (c +ℤ e)
    ring a b c d e = simp sorted (simp count (omega arith))
