-- The sums of a flow's two parts: both together are the flow, and each fits 32 bits.
use mathlib.Core.Path.{◌≡◌, sym, ap, ◌∙◌}
use mathlib.Core.List.{List}
use Prim.Native.Nat.{ℕ, ◌+◌, ◌*◌, ◌<◌, ◌≤◌}
use native.Mathlib.Nat.{mul-le-mul, div-add-mod}
use native.Mathlib.Omega.{arith}
use lib.IntN.{ℤ, pos, nat_abs, ◌+ℤ◌, ◌*ℤ◌}
use mir.Syntax.{w16, w32}
use mir.Val.{to_z, of_z}
use mir.Facts.{to_z-of_z}
use Rattle.arith.specs.Sums.{sum_of, upto}
use Rattle.arith.proofs.Linear.{sorted, count}
use Rattle.arith.proofs.Magnitudes.{abs-mul, fits-abs}
use Rattle.arith.proofs.NaturalSums.{upto-size}
use Rattle.arith.proofs.Sums.{sum-add, sum-scale, sum-ext, sum-upto}
use Rattle.market.specs.CaseFile.{case_of}
use Rattle.market.specs.UpperBounds.{energy}
use Rattle.prices.specs.Standing.{Standing}
use Rattle.prices.proofs.Known.{factor_size_lem, amount_small}
use Rattle.flows.specs.Parts.{range32, energy_of, most_energy, high_unit, most_part, high_of, low_of}
use Rattle.flows.proofs.Fit.{read_32}

-- over flowgate g, from one part of the energy of each of the first n resources
abbrev pub flow_from : (ℕ → ℤ) → List ℕ → List ℕ → ℕ → ℕ → ℤ
flow_from part b q g n = sum_of (λ i. (case_of b).shift_factor g i *ℤ part (energy_of q i)) (upto n)

-- ---- from both parts together
whole : (e : ℕ) → pos high_unit *ℤ high_of e +ℤ low_of e ≡ pos e
whole e = ap pos (div-add-mod e high_unit)

in_parts : (c : ℤ) (e : ℕ) → pos high_unit *ℤ (c *ℤ high_of e) +ℤ c *ℤ low_of e ≡ c *ℤ pos e
in_parts c e = taken_out c (high_of e) (low_of e) ∙ ap (λ (t : ℤ). c *ℤ t) (whole e)
  where
    taken_out : (c h l : ℤ) → pos high_unit *ℤ (c *ℤ h) +ℤ c *ℤ l ≡ c *ℤ (pos high_unit *ℤ h +ℤ l)
    taken_out c h l = simp sorted (simp count (omega arith))

flow_in_parts : (b q : List ℕ) (g n : ℕ) → pos high_unit *ℤ flow_from high_of b q g n +ℤ flow_from low_of b q g n ≡ flow_from pos b q g n
flow_in_parts b q g n =
    let c = (case_of b).shift_factor g in
    ap (λ (t : ℤ). t +ℤ flow_from low_of b q g n) (sum-scale (pos high_unit) (λ i. c i *ℤ high_of (energy_of q i)) (upto n))
    ∙ sym (sum-add (λ i. pos high_unit *ℤ (c i *ℤ high_of (energy_of q i))) (λ i. c i *ℤ low_of (energy_of q i)) (upto n))
    ∙ sum-ext _ _ (λ i. in_parts (c i) (energy_of q i)) (upto n)

-- ---- a part that is small for each energy
module _ {b q : List ℕ} {r z f : ℕ} (s : Standing b q r z f) (g : ℕ) (h : g < f) (part : ℕ → ℤ) (small : (e : ℕ) → e ≤ most_energy → nat_abs (part e) ≤ most_part) where
  product_small : (i : ℕ) → i < r → nat_abs ((case_of b).shift_factor g i) * nat_abs (part (energy_of q i)) ≤ 1000 * most_part
  product_small i k = mul-le-mul (factor_size_lem s.prices g i h k) (small (energy_of q i) (amount_small s i energy tt k))

  sum_small : (n : ℕ) → n ≤ r → nat_abs (flow_from part b q g n) ≤ n * (1000 * most_part)
  sum_small n k =
      upto-size (λ i. (case_of b).shift_factor g i *ℤ part (energy_of q i)) (1000 * most_part) n
      (λ i l. omega (arith, abs-mul ((case_of b).shift_factor g i) (part (energy_of q i)), product_small i (omega arith)))

  pub sum-range : (n : ℕ) → n ≤ r → nat_abs (flow_from part b q g n) < range32
  sum-range n k = omega (arith, sum_small n k, s.prices.case_bytes.counts.most_resources)

  pub sum_room : (i : ℕ) → i < r → nat_abs (flow_from part b q g i) + nat_abs ((case_of b).shift_factor g i) * nat_abs (part (energy_of q i)) < range32
  sum_room i k = omega (arith, sum_small i (omega arith), product_small i k, s.prices.case_bytes.counts.most_resources)

  -- a turn of the loop: the sum so far, the resource's factor and its part
  module _ (i : ℕ) (k : i < r) {so_far c v : ℤ} (sum_read : so_far ≡ flow_from part b q g i) (factor-is : c ≡ (case_of b).shift_factor g i) (part-is : v ≡ part (energy_of q i)) where
    factor_read : to_z w32 (of_z w32 c) ≡ (case_of b).shift_factor g i
    factor_read = rw factor-is (read_32 (omega (arith, factor_size_lem s.prices g i h k)))

    part_read : to_z w16 (of_z w16 v) ≡ part (energy_of q i)
    part_read = rw part-is (to_z-of_z (fits-abs {w = w16} (omega (arith, small (energy_of q i) (amount_small s i energy tt k)))))

    pub turn_room : nat_abs so_far + nat_abs (to_z w32 (of_z w32 c)) * nat_abs (to_z w16 (of_z w16 v)) < range32
    turn_room = rw (sum_read, factor_read, part_read) (sum_room i k)

    one_more : so_far +ℤ to_z w32 (of_z w32 c) *ℤ to_z w16 (of_z w16 v) ≡ flow_from part b q g (i + 1)
    one_more = rw (sum_read, factor_read, part_read) (sym (sum-upto (λ j. (case_of b).shift_factor g j *ℤ part (energy_of q j)) i))

    pub turn_sum : {sum : ℤ} → sum ≡ so_far +ℤ to_z w32 (of_z w32 c) *ℤ to_z w16 (of_z w16 v) → to_z w32 (of_z w32 sum) ≡ flow_from part b q g (i + 1)
    turn_sum e = rw (e ∙ one_more) (read_32 (sum-range (i + 1) (omega arith)))

-- at the end, at n of r resources: what flows, from the two sums
module _ {b q : List ℕ} {r z f : ℕ} (s : Standing b q r z f) (g : ℕ) (h : g < f) {n : ℕ} {highs lows : ℤ} (end : n ≡ r) where
  pub flow_is : highs ≡ flow_from high_of b q g n
      → lows ≡ flow_from low_of b q g n
      → pos high_unit *ℤ highs +ℤ lows ≡ flow_from pos b q g r
  flow_is high_is low-is =
      rw (high_is, low-is, end) (flow_in_parts b q g r)
