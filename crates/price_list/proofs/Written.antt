-- The numbers of the call for prices, as far as they are written: how many they are, and one more.
use mathlib.Core.Path.{◌≡◌, refl}
use mathlib.Core.List.{List, ◌++◌, map}
use Prim.Native.Nat.{ℕ, ◌*◌}
use native.Mathlib.Omega.{arith}
use lib.IntN.{ℤ}
use lib.ListN.{length, drop}
use Rattle.arith.specs.Sums.{upto, across}
use Rattle.arith.proofs.Lists.{length-across, length-upto}
use Rattle.market.specs.Case.{Case}
use Rattle.market.specs.Certificate.{Prices}
use Rattle.market.specs.Prices.{lmp_of, zone_prices, price_list, price_count, zone_price_count, price_count_of}

pub zone_count : (y : Prices) (n : ℕ) → length (across (zone_prices y) (upto n)) ≡ zone_price_count * n
zone_count y n = omega (arith, length-across (zone_prices y) zone_price_count (λ z. refl) (upto n), length-upto n)

-- both together
pub prices_written : (c : Case) (y : Prices) {r z : ℕ} → r ≡ c.resources → z ≡ c.zones → (o : List ℤ)
    → (map (lmp_of c y) (upto r) ++ across (zone_prices y) (upto z)) ++ drop (price_count_of r z) o ≡ price_list c y ++ drop (price_count c) o
unfolding price_list
prices_written c y er ez o = rw (er, ez)
