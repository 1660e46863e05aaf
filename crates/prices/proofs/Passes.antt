-- The LMPs as far as the first flowgates make them: what each pass over the resources finds, and leaves.
use mathlib.Core.Path.{◌≡◌, sym, ◌∙◌}
use mathlib.Core.List.{List, ◌++◌, map}
use Prim.Native.Nat.{ℕ, ◌+◌, ◌*◌, ◌<◌, ◌≤◌}
use native.Mathlib.Omega.{arith}
use lib.IntN.{ℤ, pos, nat_abs, ◌+ℤ◌, ◌-ℤ◌, ◌*ℤ◌, zero-*ℤ}
use lib.ListN.{drop, length-append, replicate}
use Rattle.std.proofs.lemmas.Simd.{splat_is_map}
use Rattle.arith.proofs.Lists.{length-upto}
use Rattle.arith.specs.Sums.{sum_of, upto}
use Rattle.arith.proofs.Linear.{sorted, count}
use Rattle.arith.proofs.Magnitudes.{abs-sub}
use Rattle.arith.proofs.Sums.{sum-upto}
use Rattle.arith.proofs.Tables.{table_length, table_ext, front_rest, front_entry}
use Rattle.market.specs.Case.{Case}
use Rattle.market.specs.CaseFile.{case_of}
use Rattle.market.specs.Rows.{balance_row, flowgate_row}
use Rattle.market.specs.Certificate.{Prices, certificate_of}
use Rattle.market.specs.Prices.{lmp_of}
use Rattle.prices.specs.Figures.{FlowgateRoom, less_flowgate}
use Rattle.prices.specs.Standing.{PricesStand}
use Rattle.prices.proofs.Known.{balance_size, congestion_size, congestion_room, congestion_so_far, lmp_is}

-- of resource i, after n flowgates
unfoldable pub lmp_after : Case → Prices → ℕ → ℕ → ℤ
lmp_after c y n i = y balance_row -ℤ sum_of (λ g. y (flowgate_row g) *ℤ c.shift_factor g i) (upto n)

-- of r resources
abbrev pub lmps_after : Case → Prices → ℕ → ℕ → List ℤ
lmps_after c y n r = map (lmp_after c y n) (upto r)

less_nothing : (a : ℤ) → a ≡ a -ℤ pos 0
less_nothing a = simp sorted (simp count (omega arith))

less_both : (a t p : ℤ) → a -ℤ t -ℤ p ≡ a -ℤ (t +ℤ p)
less_both a t p = simp sorted (simp count (omega arith))

module _ (c : Case) (y : Prices) where
  after_none : (i : ℕ) → y balance_row ≡ lmp_after c y 0 i
  unfolding lmp_after sum_of upto
  after_none i = less_nothing (y balance_row)

  after_one_more : (n i : ℕ) → lmp_after c y n i -ℤ y (flowgate_row n) *ℤ c.shift_factor n i ≡ lmp_after c y (n + 1) i
  unfolding lmp_after
  after_one_more n i = rw sum-upto (less_both (y balance_row) (sum_of (λ g. y (flowgate_row g) *ℤ c.shift_factor g i) (upto n)) (y (flowgate_row n) *ℤ c.shift_factor n i))

  without_price : (n i : ℕ) → y (flowgate_row n) ≡ pos 0 → lmp_after c y n i ≡ lmp_after c y n i -ℤ y (flowgate_row n) *ℤ c.shift_factor n i
  without_price n i e = rw (e, zero-*ℤ (c.shift_factor n i)) (less_nothing (lmp_after c y n i))

  module _ (r : ℕ) where
    -- before the first pass
    pub none_passed : replicate r (y balance_row) ≡ lmps_after c y 0 r
    none_passed = splat_is_map (upto r) r (y balance_row) (length-upto r) ∙ table_ext (λ i. y balance_row) (lmp_after c y 0) r (λ i l. after_none i)

    -- a flowgate's pass: it takes its part from each figure
    pub one_taken : (n : ℕ) (out rest : List ℤ) → out ≡ lmps_after c y n r ++ rest
        → map (less_flowgate c n (y (flowgate_row n)) out) (upto r) ++ drop r out ≡ lmps_after c y (n + 1) r ++ rest
    one_taken n out rest e =
        rw (
          front_rest (lmp_after c y n) r out rest e,
          table_ext (less_flowgate c n (y (flowgate_row n)) out) (lmp_after c y (n + 1)) r (λ i l. rw (e, front_entry (pos 0) (lmp_after c y n) r rest i l) (after_one_more n i)),
        )

    -- one that is passed over
    pub none_taken : (n : ℕ) → y (flowgate_row n) ≡ pos 0 → lmps_after c y n r ≡ lmps_after c y (n + 1) r
    none_taken n e = table_ext (lmp_after c y n) (lmp_after c y (n + 1)) r (λ i l. without_price n i e ∙ after_one_more n i)

module _ {b q : List ℕ} {r z f : ℕ} (s : PricesStand b q r z f) where
  pub all_passed : lmps_after (case_of b) (certificate_of q).price f r ≡ map (lmp_of (case_of b) (certificate_of q).price) (upto r)
  unfolding lmp_after
  all_passed = table_ext (lmp_after (case_of b) (certificate_of q).price f) (lmp_of (case_of b) (certificate_of q).price) r (λ i l. sym (lmp_is s i))

  after_size : (n i : ℕ) → n ≤ f → i < r → nat_abs (lmp_after (case_of b) (certificate_of q).price n i) ≤ 400000000 + n * 400000000
  unfolding lmp_after
  after_size n i h k =
      omega (arith, abs-sub ((certificate_of q).price balance_row) (sum_of (λ g. (certificate_of q).price (flowgate_row g) *ℤ (case_of b).shift_factor g i) (upto n)), balance_size s, congestion_so_far s n i h k)

  pub pass_room : (n : ℕ) (out rest : List ℤ) → n < f → out ≡ lmps_after (case_of b) (certificate_of q).price n r ++ rest
      → FlowgateRoom b r z f n ((certificate_of q).price (flowgate_row n)) out
  pass_room n out rest h e =
      let l = lmp_after (case_of b) (certificate_of q).price n in
      rw e
      (record {
        case_bytes = s.case_bytes;
        counted = h;
        long = omega (arith, length-append (map l (upto r)) rest, table_length l r);
        product = λ i k. congestion_room s n i h k;
        difference = λ i k. rw (front_entry (pos 0) l r rest i k) (omega (arith, after_size n i (omega arith) k, congestion_size s n i h k, s.case_bytes.counts.most_flowgates));
      })
