-- What a C host receives from reading a file's numbers and from writing a file of numbers, and that the one undoes the
-- other (demand 2). Both of a kind of file: its reading and its writing, each as the answer and the lent buffer afterwards.
use Rattle.market.specs.declared.Refusal.{Refusal}
use Rattle.std.specs.Prelude.{Result}
use Rattle.std.specs.Prelude.{List, ◌++◌, ◌≡◌, ℕ, ◌≤◌, ℤ, length, take, drop}
use Rattle.market.specs.declared.Count.{Count}
use Rattle.market.specs.Refusals.{count_of}

-- success, with so many elements written
abbrev pub counting : ℕ → Count
counting n = record { refusal = 0; count = n }

module _
    (reading : List ℕ → ℕ → (Result ℕ Refusal)) (readBuffer : List ℕ → List ℤ → List ℤ)
    (writing : List ℤ → ℕ → (Result ℕ Refusal)) (writeBuffer : List ℤ → List ℕ → List ℕ)
  where
    -- of file bytes b, the buffer's numbers before and after, and the result
    pub record NumbersRead (b : List ℕ) (before after : List ℤ) (result : Count) : Type 0 where
      -- result and buffer are those that 01 defines
      pub answer : result ≡ count_of (reading b (length before))
      pub buffer : after ≡ readBuffer b before
      -- refusal 0: the numbers counted, as they stand in the buffer, are written as b into any bytes that are enough
      pub written_back : result.refusal ≡ 0 → (out : List ℕ) → length b ≤ length out →
          (count_of (writing (take result.count after) (length out)) ≡ counting (length b))
          × (writeBuffer (take result.count after) out ≡ b ++ drop (length b) out)

    -- of numbers vs, the buffer's bytes before and after, and the result
    pub record NumbersWritten (vs : List ℤ) (before after : List ℕ) (result : Count) : Type 0 where
      pub answer : result ≡ count_of (writing vs (length before))
      pub buffer : after ≡ writeBuffer vs before
      -- refusal 0: the bytes counted, as they stand in the buffer, are read as vs into any numbers that are enough
      pub read_back : result.refusal ≡ 0 → (out : List ℤ) → length vs ≤ length out →
          (count_of (reading (take result.count after) (length out)) ≡ counting (length vs))
          × (readBuffer (take result.count after) out ≡ vs ++ drop (length vs) out)
