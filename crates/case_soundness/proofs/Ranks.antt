-- Ranks of energy steps: where they never fall, and the last is at most that of a step of width 0 and price 0, the prices are in range
-- and the steps keep their rule.
use Rattle.std.proofs.Common.{◌≡◌, ℕ, zero, suc, ◌+◌, ◌-◌, ◌%◌, ◌<◌, ◌≤◌, true, ◌&&◌, sym, refl, ◌∙◌, add-one, arith, below_more, lt-ltb, eq-eqb, le-leb}
use native.Mathlib.Decide.{dec_lt}
use lib.Signed.{le_z}
use Rattle.arith.specs.Sums.{upto, all}
use Rattle.arith.proofs.Ranges.{all_below}
use Rattle.market.specs.Bytes.{signed, within, either_way}
use Rattle.market.specs.Case.{width_of}
use Rattle.market.specs.CaseCheck.{steps_follow, steps_right, never_falls}
use Rattle.case_ranges.proofs.Halves.{Halved, at_bottom, at_top, zero_signed, shifted_order}
use Rattle.case_ranges.proofs.Laws.{from_zero}
use Rattle.case_soundness.specs.Ranks.{moved_of, rank_of}

-- ---- one step, and one behind another
-- a price as the file's number of 32 bits, in range
pub record Priced (n : ℕ) : Type 0 where
  pub number : n < 4294967296
  pub moved : moved_of n ≤ 800000

priced_by_rank : (w : ℕ) {n : ℕ} → n < 4294967296 → rank_of w n (moved_of n) ≤ 1600001 → Priced n
unfolding rank_of
priced_by_rank zero number l = record { number = number; moved = omega arith }
priced_by_rank (suc w) number l = record { number = number; moved = omega arith }

price_in_range : {n : ℕ} → Priced n → either_way 400000 (signed 2147483648 n) ≡ true
price_in_range {n} h = go (dec_lt 400000 n)
  where
    halved : Halved n 2147483648 400000
    halved = record { number = omega arith; largest = omega arith; width = omega arith }

    go : Dec (400000 < n) → either_way 400000 (signed 2147483648 n) ≡ true
    go (yes l) = at_top halved l ∙ lt-ltb _ n (omega arith)
    go (no l) = at_bottom halved (omega arith)

prices_in_order_lem : {m n : ℕ} → Priced m → Priced n → moved_of m ≤ moved_of n → le_z (signed 2147483648 m) (signed 2147483648 n) ≡ true
prices_in_order_lem {m} {n} h k l = sym (shifted_order m n h.number k.number) ∙ le-leb ((m + 2147483648) % 4294967296) ((n + 2147483648) % 4294967296) (omega arith)

-- a step behind another: no width only with no price, and none of some width behind one of none
follows : (w w' : ℕ) {p p' : ℕ} → Priced p → Priced p' → rank_of w p (moved_of p) ≤ rank_of w' p' (moved_of p') → rank_of w' p' (moved_of p') ≤ 1600001 → steps_follow never_falls w (signed 2147483648 p) w' (signed 2147483648 p') ≡ true
unfolding steps_follow rank_of
follows w zero {p} {p'} h k l m = zero_signed p' 2147483648 k.number ∙ eq-eqb p' 0 (omega arith)
follows zero (suc w') h k l m = absurd (omega arith)
follows (suc w) (suc w') h k l m = rw (lt-ltb 0 (suc w) (omega arith)) (prices_in_order_lem h k (omega arith))

-- the first step
starts : (w : ℕ) {p : ℕ} → Priced p → rank_of w p (moved_of p) ≤ 1600001 → steps_follow (λ v v'. true) 1 (signed 2147483648 0) w (signed 2147483648 p) ≡ true
unfolding steps_follow rank_of
starts zero {p} h m = zero_signed p 2147483648 h.number ∙ eq-eqb p 0 (omega arith)
starts (suc w) h m = refl

-- ---- all steps of an offer, by their widths w and prices p
module _ (w p : ℕ → ℕ) where
  abbrev pub rank_at : ℕ → ℕ
  rank_at j = rank_of (w j) (p j) (moved_of (p j))

  -- the rank reached before step j
  abbrev pub rank_before : ℕ → ℕ
  rank_before zero = 0
  rank_before (suc j) = rank_at j

  pub rank_next : (j : ℕ) → rank_before (j + 1) ≡ rank_at j
  rank_next j = rw (add-one j)

  pub record Rising (j : ℕ) : Type 0 where
    pub number : p j < 4294967296
    pub rises : rank_before j ≤ rank_at j

  rank_within : (n : ℕ) → ((k : ℕ) → k < suc n → Rising k) → (j : ℕ) → j < suc n → rank_at j ≤ rank_at n
  rank_within zero h j l = let e : j ≡ 0 = omega arith in rw e (omega arith)
  rank_within (suc n) h j l = go (rank_within n (λ k m. h k (omega arith)) j) (dec_lt j (suc n))
    where
      go : (j < suc n → rank_at j ≤ rank_at n) → Dec (j < suc n) → rank_at j ≤ rank_at (suc n)
      go below (yes k) = omega (arith, below k, (h (suc n) (omega arith)).rises)
      go below (no k) = let e : j ≡ suc n = omega arith in rw e (omega arith)

-- one step more, by the test of the loop
pub rising_next : (w p : ℕ → ℕ) (j : ℕ) {last here : ℕ} → ((k : ℕ) → k < j → Rising w p k) → p j < 4294967296 → last ≡ rank_before w p j → here ≡ rank_at w p j → last ≤ here → (k : ℕ) → k < j + 1 → Rising w p k
rising_next w p j before number l h t = below_more (Rising w p) j before (record { number = number; rises = omega (arith, l, h, t) })

width_part : (w : ℕ → ℕ) (n j : ℕ) → j < n → w j ≤ width_of w n
unfolding width_of
width_part w zero j l = absurd (omega arith)
width_part w (suc n) j l = go (width_part w n j) (dec_lt j n)
  where
    go : (j < n → w j ≤ width_of w n) → Dec (j < n) → w j ≤ width_of w n + w n
    go below (yes k) = omega (arith, below k)
    go below (no k) = let e : j ≡ n = omega arith in rw e (omega arith)

module _ (w p : ℕ → ℕ) (n : ℕ) (rising : (k : ℕ) → k < suc n → Rising w p k) (last : rank_at w p n ≤ 1600001) where
  reached : (j : ℕ) → j < suc n → rank_at w p j ≤ 1600001
  reached j l = omega (arith, last, rank_within w p n rising j l)

  priced : (j : ℕ) → j < suc n → Priced (p j)
  priced j l = priced_by_rank (w j) (rising j l).number (reached j l)

  pub offer_in_range : width_of w (suc n) ≤ 2000000 → all (λ j. within 0 2000000 (w j) && either_way 400000 (signed 2147483648 (p j))) (upto (suc n)) ≡ true
  offer_in_range sum = all_below _ (suc n) (λ j l. rw (← (from_zero 2000000 (w j)), le-leb (w j) 2000000 (omega (arith, width_part w (suc n) j l))) (price_in_range (priced j l)))

  pub offer_right_lem : steps_right never_falls w (λ j. signed 2147483648 (p j)) (suc n) ≡ true
  unfolding steps_right
  offer_right_lem =
      let e : suc n - 1 ≡ n = omega arith in
      rw (e, starts (w 0) (priced 0 (omega arith)) (reached 0 (omega arith))) (all_below _ n steps)
    where
      steps : (j : ℕ) → j < n → steps_follow never_falls (w j) (signed 2147483648 (p j)) (w (j + 1)) (signed 2147483648 (p (j + 1))) ≡ true
      steps j l =
          rw (add-one j) (follows (w j) (w (suc j)) (priced j (omega arith)) (priced (suc j) (omega arith)) (rising (suc j) (omega arith)).rises (reached (suc j) (omega arith)))
