-- Where an energy step stands among the others. Its price is the file's number of 32 bits.
use Rattle.std.specs.Prelude.{ℕ, zero, suc, ◌+◌, ◌*◌, ◌%◌}

-- moved up, so that the lowest price that a step may have is 0 and the highest 800,000
abbrev pub moved_of : ℕ → ℕ
moved_of price = (price + 400000) % 4294967296

-- of a step of this width and price: without a width and a price, between the highest price in range and the next one above it
unfoldable pub rank_of : ℕ → ℕ → ℕ → ℕ
rank_of zero price moved = 1600001 + price
rank_of (suc width) price moved = 2 * moved
