-- Numbers in bytes, big-endian (01, 'The case file'), and tests of ranges. A file is a list of bytes, each a natural number
-- below 256; a byte beyond its end reads as 0.
use Rattle.std.specs.Prelude.{Bool, cond, ◌&&◌, List, ℕ, ◌+◌, ◌*◌, get_or, leb, ltb, ℤ, pos, neg_ℤ, ◌-ℤ◌}
use Rattle.std.specs.Int.Signed.{le_z}

abbrev pub u8_at : List ℕ → ℕ → ℕ
u8_at b at = get_or b at 0

abbrev pub u16_at : List ℕ → ℕ → ℕ
u16_at b at = u8_at b at * 256 + u8_at b (at + 1)

abbrev pub u32_at : List ℕ → ℕ → ℕ
u32_at b at = u8_at b at * 16777216 + u8_at b (at + 1) * 65536 + u8_at b (at + 2) * 256 + u8_at b (at + 3)

-- two's complement: from half the range on, a number stands for itself less the range
abbrev pub signed : ℕ → ℕ → ℤ
signed half n = cond (ltb n half) (pos n) (pos n -ℤ pos (half + half))

abbrev pub i16_at : List ℕ → ℕ → ℤ
i16_at b at = signed 32768 (u16_at b at)

abbrev pub i32_at : List ℕ → ℕ → ℤ
i32_at b at = signed 2147483648 (u32_at b at)

abbrev pub within : ℕ → ℕ → ℕ → Bool
within low high n = leb low n && leb n high

abbrev pub within_ℤ : ℤ → ℤ → ℤ → Bool
within_ℤ low high v = le_z low v && le_z v high

-- at most n either way
abbrev pub either_way : ℕ → ℤ → Bool
either_way n v = within_ℤ (neg_ℤ (pos n)) (pos n) v
