-- From a transfer's answer to what a C host receives, with the round trip.
use Rattle.market.specs.declared.Refusal.{Refusal}
use Rattle.std.specs.Prelude.{Result, Ok, Err}
use mathlib.Core.Path.{◌≡◌, refl, ap}
use mathlib.Core.List.{List}
use Prim.Native.Nat.{ℕ}
use native.Mathlib.Omega.{arith}
use lib.IntN.{ℤ}
use lib.ListN.{length}
use Rattle.market.specs.declared.Count.{Count}
use Rattle.market.specs.Refusals.{count_of}
use Rattle.read_numbers.specs.Reading.{WrittenBack}
use Rattle.write_numbers.specs.Writing.{ReadBack}
use Rattle.nostwier.specs.Transferred.{NumbersRead, NumbersWritten}
use Rattle.nostwier.proofs.Reporting.{numbered}

-- refusal 0 is the answer of success alone
success : (t : (Result ℕ Refusal)) → (count_of t).refusal ≡ 0 → t ≡ Ok (count_of t).count
success (Ok n) e = refl
success (Err w) e = absurd (omega (arith, numbered w))

module _
    (reading : List ℕ → ℕ → (Result ℕ Refusal)) (readBuffer : List ℕ → List ℤ → List ℤ)
    (writing : List ℤ → ℕ → (Result ℕ Refusal)) (writeBuffer : List ℤ → List ℕ → List ℕ)
  where
    pub numbers_read : (b : List ℕ) (before after : List ℤ) (t : (Result ℕ Refusal)) (r : Count) → r ≡ count_of t
        → (t ≡ reading b (length before)) × (after ≡ readBuffer b before) × WrittenBack writing writeBuffer b after t
        → NumbersRead reading readBuffer writing writeBuffer b before after r
    numbers_read b before after t r e h =
        rw e
        (record {
          answer = ap count_of h.0;
          buffer = h.1;
          written_back = λ z out l. let k = h.2 (count_of t).count (success t z) out l in (ap count_of k.0, k.1);
        })

    pub numbers_written : (v : List ℤ) (before after : List ℕ) (t : (Result ℕ Refusal)) (r : Count) → r ≡ count_of t
        → (t ≡ writing v (length before)) × (after ≡ writeBuffer v before) × ReadBack reading readBuffer v after t
        → NumbersWritten reading readBuffer writing writeBuffer v before after r
    numbers_written v before after t r e h =
        rw e
        (record {
          answer = ap count_of h.0;
          buffer = h.1;
          read_back = λ z out l. let k = h.2 (count_of t).count (success t z) out l in (ap count_of k.0, k.1);
        })
