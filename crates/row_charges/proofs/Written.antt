-- The charges of rows as far as they are written: how many they are, and one block more.
use mathlib.Core.Path.{◌≡◌, refl, sym, ap, ◌∙◌}
use Rattle.market.specs.declared.version.Version.{Version}
use Rattle.market.specs.declared.version.Version.TheVariants.{First}
use mathlib.Core.List.{List, [], ◌∷◌, ◌++◌, map, map-append, append_assoc}
use Prim.Native.Nat.{ℕ, ◌+◌, ◌*◌, ◌-◌, ◌≤◌, ◌<◌}
use native.Mathlib.Omega.{arith}
use lib.IntN.{ℤ}
use lib.ListN.{length, take, drop, set, length-map, length-append}
use borrow.Rule.Slice.PartMut.{put_mid}
use Rattle.arith.specs.Sums.{upto, across}
use Rattle.arith.proofs.Lists.{length-across, length-upto, across-upto, map-upto}
use Rattle.market.specs.Case.{Case, zoned_curves, curves}
use Rattle.market.specs.Rows.{Row, balance_row, market_row, zone_row, flowgate_row, market_rows, zone_rows, flowgate_rows, limit_rows, rows, system_row_count, zone_row_count, resource_row_count, row_count_of}
use Rattle.arith.proofs.Buffers.{write_on, store_on}

module _ (h : Row → ℤ) where
  -- ---- blocks of w rows
  module _ (block : ℕ → List Row) (w : ℕ) (long : (i : ℕ) → length (block i) ≡ w) where
    pub block_count : (n : ℕ) → length (map h (across block (upto n))) ≡ n * w
    block_count n = length-map (across block (upto n)) h ∙ length-across block w long (upto n) ∙ ap (λ (m : ℕ). m * w) (length-upto n)

    -- one more, in the part from its place on
    pub block_written : (i : ℕ) (o out last : List ℤ) → i * w ≤ length o
        → out ≡ map h (across block (upto i)) ++ drop (i * w) o
        → last ≡ map h (block i) ++ drop w (take (length out - i * w) (drop (i * w) out))
        → put_mid (i * w) (length out - i * w) out last ≡ map h (across block (upto (i + 1))) ++ drop ((i + 1) * w) o
    block_written i o out last fit eo el =
        let more : i * w + w ≡ (i + 1) * w = omega arith in
        rw (across-upto block i, map-append h (across block (upto i)) (block i), ← more)
        (write_on (map h (across block (upto i))) (map h (block i)) o out last (i * w) w (i * w) (block_count i) refl fit eo el)

  -- ---- a row for each number
  module _ (row : ℕ → Row) where
    pub row_count_lem : (n : ℕ) → length (map h (map row (upto n))) ≡ n
    row_count_lem n = length-map (map row (upto n)) h ∙ length-map (upto n) row ∙ length-upto n

    pub row_written : (i : ℕ) (o out : List ℤ) → i < length o → out ≡ map h (map row (upto i)) ++ drop i o
        → set out i (h (row i)) ≡ map h (map row (upto (i + 1))) ++ drop (i + 1) o
    row_written i o out fit eo =
        rw (map-upto row i, map-append h (map row (upto i)) (row i ∷ [])) (store_on (map h (map row (upto i))) o out (h (row i)) i (row_count_lem i) fit eo)

  -- ---- the market's rows: those of the curves that zones have too
  all_four : (version : Version) (o out : List ℤ) → out ≡ map h (map market_row zoned_curves) ++ drop zone_row_count o → out ≡ map h (map market_row (curves version)) ++ drop (length (curves version)) o
  all_four First o out eo = eo

  -- ---- families together
  module _ (c : Case) where
    pub four_written : (o out : List ℤ) → out ≡ map h (map market_row zoned_curves) ++ drop zone_row_count o → out ≡ map h (market_rows c) ++ drop (length (curves c.version)) o
    four_written = all_four c.version

    pub system_count : length (map h (balance_row ∷ market_rows c)) ≡ system_row_count c.version
    system_count = length-map (balance_row ∷ market_rows c) h ∙ omega (arith, length-map (curves c.version) market_row)

    pub zone_count : {z : ℕ} → z ≡ c.zones → length (map h (balance_row ∷ market_rows c) ++ map h (zone_rows c)) ≡ system_row_count c.version + z * zone_row_count
    zone_count e =
        omega (
          arith,
          e,
          system_count,
          length-append (map h (balance_row ∷ market_rows c)) (map h (zone_rows c)),
          block_count (λ y. map (zone_row y) zoned_curves) zone_row_count (λ y. refl) c.zones,
        )

    pub flowgate_count : {f : ℕ} → f ≡ c.flowgates → length (map h (flowgate_rows c)) ≡ f
    flowgate_count e = row_count_lem flowgate_row c.flowgates ∙ sym e

    all_rows : (map h (balance_row ∷ market_rows c) ++ map h (zone_rows c)) ++ map h (flowgate_rows c ++ limit_rows c) ≡ map h (rows c)
    unfolding rows
    all_rows =
        ap (λ (l : List ℤ). l ++ map h (flowgate_rows c ++ limit_rows c)) (sym (map-append h (balance_row ∷ market_rows c) (zone_rows c)))
        ∙ sym (map-append h ((balance_row ∷ market_rows c) ++ zone_rows c) (flowgate_rows c ++ limit_rows c))
        ∙ ap (map h) (append_assoc (balance_row ∷ market_rows c) (zone_rows c) (flowgate_rows c ++ limit_rows c))

    pub all_written : (z f r : ℕ) (o : List ℤ) → ((map h (balance_row ∷ market_rows c) ++ map h (zone_rows c)) ++ map h (flowgate_rows c ++ limit_rows c)) ++ drop (system_row_count c.version + z * zone_row_count + (f + r * resource_row_count c.version)) o
        ≡ map h (rows c) ++ drop (row_count_of c.version r z f) o
    all_written z f r o =
        let e : system_row_count c.version + z * zone_row_count + (f + r * resource_row_count c.version) ≡ row_count_of c.version r z f = omega arith in
        ap (λ (l : List ℤ). l ++ drop (system_row_count c.version + z * zone_row_count + (f + r * resource_row_count c.version)) o) all_rows ∙ ap (λ (n : ℕ). map h (rows c) ++ drop n o) e
