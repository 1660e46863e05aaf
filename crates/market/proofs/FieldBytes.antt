-- One field: its bytes are read back as its number, and the number that bytes stand for fits it and is written as those bytes.
use mathlib.Core.Path.{◌≡◌, refl, ◌∙◌, ap}
use mathlib.Core.Bool.{true}
use mathlib.Core.List.{List, [], ◌∷◌, ◌++◌}
use Prim.Native.Nat.{ℕ, suc, ◌+◌, ◌*◌, ◌-◌, ◌/◌, ◌%◌, ◌<◌, ◌≤◌}
use native.Mathlib.Nat.{add_assoc}
use native.Mathlib.Decide.{dec_lt}
use native.Mathlib.Omega.{arith}
use borrow.Author.Tests.{lt-ltb, le-ltb}
use lib.Dec.{T, leb, leb→le, le→leb}
use lib.IntN.{ℤ, pos, negsuc}
use lib.ListN.{length, take, drop}
use lib.Seq.{get_or-drop}
use Rattle.arith.proofs.Parts.{eq_in, plus_part-add, minus_part-add, plus_part-neg, minus_part-neg}
use Rattle.arith.proofs.Lists.{each_at}
use Rattle.arith.proofs.AllTests.{and_split, and_join}
use Rattle.market.specs.Bytes.{u8_at, u16_at, u32_at, signed, within_ℤ}
use Rattle.market.specs.Numbers.{Field, u8, u16, u32, i16, i32, field_width, field_low, field_high, field_at, field_bytes, unsigned, u16_bytes, u32_bytes}
use Rattle.market.specs.RoundTrips.{AreBytes}

-- ---- words: the number that the written bytes stand for
u16_value : (n : ℕ) → n < 65536 → n / 256 % 256 * 256 + n % 256 ≡ n
u16_value n h = omega arith

pub u32_value : (n : ℕ) → n < 4294967296 → n / 16777216 % 256 * 16777216 + n / 65536 % 256 * 65536 + n / 256 % 256 * 256 + n % 256 ≡ n
u32_value n h =
    let low : n / 256 * 256 + n % 256 ≡ n = omega arith in
    let second : n / 65536 * 256 + n / 256 % 256 ≡ n / 256 = omega arith in
    let third : n / 16777216 * 256 + n / 65536 % 256 ≡ n / 65536 = omega arith in
    let high : n / 16777216 % 256 ≡ n / 16777216 = omega arith in
    omega arith

-- and the bytes of a number that bytes stand for
u16_bytes_lem : (b : List ℕ) → AreBytes b → 2 ≤ length b → u16_bytes (u16_at b 0) ≡ take 2 b
u16_bytes_lem [] h l = absurd (omega arith)
u16_bytes_lem (x ∷ []) h l = absurd (omega arith)
u16_bytes_lem (x ∷ y ∷ b) h l =
    let high : (x * 256 + y) / 256 % 256 ≡ x = omega arith in
    let low : (x * 256 + y) % 256 ≡ y = omega arith in
    rw (high, low)

pub u32_bytes_lem : (b : List ℕ) → AreBytes b → 4 ≤ length b → u32_bytes (u32_at b 0) ≡ take 4 b
u32_bytes_lem [] h l = absurd (omega arith)
u32_bytes_lem (x ∷ []) h l = absurd (omega arith)
u32_bytes_lem (x ∷ y ∷ []) h l = absurd (omega arith)
u32_bytes_lem (x ∷ y ∷ z ∷ []) h l = absurd (omega arith)
u32_bytes_lem (x ∷ y ∷ z ∷ w ∷ b) h l =
    let high : (x * 16777216 + y * 65536 + z * 256 + w) / 16777216 % 256 ≡ x = omega arith in
    let second : (x * 16777216 + y * 65536 + z * 256 + w) / 65536 % 256 ≡ y = omega arith in
    let third : (x * 16777216 + y * 65536 + z * 256 + w) / 256 % 256 ≡ z = omega arith in
    let low : (x * 16777216 + y * 65536 + z * 256 + w) % 256 ≡ w = omega arith in
    rw (high, second, third, low)

-- ---- words within a file
byte_small : (b : List ℕ) → AreBytes b → (p : ℕ) → u8_at b p < 256
byte_small b h p = each_at (λ v. v < 256) b 0 h (omega arith) p

u16_small : (b : List ℕ) → AreBytes b → (p : ℕ) → u16_at b p < 65536
u16_small b h p = omega (arith, byte_small b h p, byte_small b h (p + 1))

u32_small : (b : List ℕ) → AreBytes b → (p : ℕ) → u32_at b p < 4294967296
u32_small b h p = omega (arith, byte_small b h p, byte_small b h (p + 1), byte_small b h (p + 2), byte_small b h (p + 3))

-- ---- unsigned fields, of numbers up to m
natural_unsigned : (m range : ℕ) (v : ℤ) → T (within_ℤ (pos 0) (pos m) v) → (pos (unsigned range v) ≡ v) × (unsigned range v ≤ m)
natural_unsigned m range (pos n) t = (refl, leb→le n m (and_split (leb 0 n) (leb n m) t).1)
natural_unsigned m range (negsuc n) t = absurd t

natural_fits : (m n : ℕ) → n ≤ m → T (within_ℤ (pos 0) (pos m) (pos n))
natural_fits m n l = and_join (leb 0 n) (leb n m) (le→leb 0 n (omega arith)) (le→leb n m l)

-- ---- signed fields, of half the range suc h: a number below it stands for itself, any other for itself less the range
signed_below : (h n : ℕ) → n < suc h → signed (suc h) n ≡ pos n
signed_below h n l = rw (lt-ltb n (suc h) l)

signed_above : (h n : ℕ) → suc h ≤ n → n < suc h + suc h → signed (suc h) n ≡ negsuc (suc h + suc h - suc n)
signed_above h n l m = rw (le-ltb n (suc h) l) (eq_in (simp (plus_part-add, minus_part-add, plus_part-neg, minus_part-neg) (omega arith)))

signed_unsigned : (h : ℕ) (v : ℤ) → T (within_ℤ (negsuc h) (pos h) v)
    → (signed (suc h) (unsigned (suc h + suc h) v) ≡ v) × (unsigned (suc h + suc h) v < suc h + suc h)
signed_unsigned h (pos n) t = let l : n ≤ h = leb→le n h t in (signed_below h n (omega arith), omega arith)
signed_unsigned h (negsuc n) t =
    let l : n ≤ h = leb→le n h (and_split (leb n h) true t).0 in
    (signed_above h (suc h + suc h - suc n) (omega arith) (omega arith) ∙ ap negsuc (omega arith), omega arith)

unsigned_signed : (h n : ℕ) → n < suc h + suc h
    → (unsigned (suc h + suc h) (signed (suc h) n) ≡ n) × T (within_ℤ (negsuc h) (pos h) (signed (suc h) n))
unsigned_signed h n l = go (dec_lt n (suc h))
  where
    go : Dec (n < suc h) → (unsigned (suc h + suc h) (signed (suc h) n) ≡ n) × T (within_ℤ (negsuc h) (pos h) (signed (suc h) n))
    go (yes k) = rw (signed_below h n k) (refl, le→leb n h (omega arith))
    go (no k) =
        let m = suc h + suc h - suc n in
        rw (signed_above h n (omega arith) l) (omega arith, and_join (leb m h) true (le→leb m h (omega arith)) tt)

-- ---- the five fields
pub field_length : (f : Field) (v : ℤ) → length (field_bytes f v) ≡ field_width f
unfolding field_bytes
field_length u8 v = refl
field_length u16 v = refl
field_length u32 v = refl
field_length i16 v = refl
field_length i32 v = refl

-- a field is read in the same way from a part of the file
pub field_part : (f : Field) (b : List ℕ) (p q : ℕ) → field_at f b (p + q) ≡ field_at f (drop p b) q
unfolding field_at
field_part u8 b p q = simp get_or-drop
field_part u16 b p q = simp (get_or-drop, add_assoc)
field_part u32 b p q = simp (get_or-drop, add_assoc)
field_part i16 b p q = simp (get_or-drop, add_assoc)
field_part i32 b p q = simp (get_or-drop, add_assoc)

-- the bytes of a number that fits are read back as it
pub field_read : (f : Field) (v : ℤ) → T (within_ℤ (field_low f) (field_high f) v) → (rest : List ℕ) → field_at f (field_bytes f v ++ rest) 0 ≡ v
unfolding field_at field_bytes
field_read u8 v t rest = let r = natural_unsigned 255 256 v t in ap pos (omega arith) ∙ r.0
field_read u16 v t rest = let r = natural_unsigned 65535 65536 v t in ap pos (u16_value (unsigned 65536 v) (omega arith)) ∙ r.0
field_read u32 v t rest = let r = natural_unsigned 4294967295 4294967296 v t in ap pos (u32_value (unsigned 4294967296 v) (omega arith)) ∙ r.0
field_read i16 v t rest = let r = signed_unsigned 32767 v t in ap (signed 32768) (u16_value (unsigned 65536 v) r.1) ∙ r.0
field_read i32 v t rest = let r = signed_unsigned 2147483647 v t in ap (signed 2147483648) (u32_value (unsigned 4294967296 v) r.1) ∙ r.0

-- a number that bytes stand for fits its field
pub field_fits : (f : Field) (b : List ℕ) → AreBytes b → (p : ℕ) → T (within_ℤ (field_low f) (field_high f) (field_at f b p))
unfolding field_at
field_fits u8 b h p = natural_fits 255 (u8_at b p) (omega (arith, byte_small b h p))
field_fits u16 b h p = natural_fits 65535 (u16_at b p) (omega (arith, u16_small b h p))
field_fits u32 b h p = natural_fits 4294967295 (u32_at b p) (omega (arith, u32_small b h p))
field_fits i16 b h p = (unsigned_signed 32767 (u16_at b p) (u16_small b h p)).1
field_fits i32 b h p = (unsigned_signed 2147483647 (u32_at b p) (u32_small b h p)).1

-- and is written as those bytes
pub field_written : (f : Field) (b : List ℕ) → AreBytes b → field_width f ≤ length b → field_bytes f (field_at f b 0) ≡ take (field_width f) b
unfolding field_at field_bytes
field_written u8 [] h l = absurd (omega arith)
field_written u8 (x ∷ b) h l = let e : x % 256 ≡ x = omega arith in rw e
field_written u16 b h l = u16_bytes_lem b h l
field_written u32 b h l = u32_bytes_lem b h l
field_written i16 b h l = ap u16_bytes (unsigned_signed 32767 (u16_at b 0) (u16_small b h 0)).0 ∙ u16_bytes_lem b h l
field_written i32 b h l = ap u32_bytes (unsigned_signed 2147483647 (u32_at b 0) (u32_small b h 0)).0 ∙ u32_bytes_lem b h l
