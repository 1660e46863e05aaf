-- The worked interval with 12 flowgates, the most there may be, and with 13, 16 and 17, which are refused wherever counts are tested
-- (02, request 9).
use Rattle.std.specs.Prelude.{List, [], ◌∷◌, ◌++◌, ℕ, ℤ, pos, neg_ℤ}
use Rattle.arith.specs.Sums.{across}
use Rattle.market.specs.CaseFile.{case_of}
use Rattle.market.specs.Certificate.{certificate_of}
use Rattle.market.specs.Prices.{lmp_of}
use Rattle.market.specs.Refusals.{count_of}
use Rattle.market.specs.Outcome.{case_answer}
use Rattle.market.specs.Numbers.{read_certificate, write_case, write_certificate}
use Rattle.market.specs.Interval.{worked_q, energy_to, gated, gated_at_highest}
use Rattle.market.specs.Worked.{Example, run, refused, numbered, counted}

-- the next number, the most of document 01, and one more
abbrev pub too_many : List ℕ
too_many = 13 ∷ 16 ∷ 17 ∷ []

-- a list that ends with its counts
abbrev pub counts_alone : ℕ → List ℤ
counts_alone n = pos 1 ∷ pos 1 ∷ pos n ∷ []

abbrev pub flowgate_counts : List Example
flowgate_counts =
    record { given = across (λ n. numbered (case_answer (gated n))) (12 ∷ too_many); says = pos 0 ∷ pos 3 ∷ pos 3 ∷ pos 3 ∷ [] }
    -- the LMP is as low as `Fits.SumsAtMost` says that it can be, row 1 and 12 flowgates, at prices that pass 12: with too much e, 13
    -- is the first ground
    ∷ record { given = run (gated 12) (gated_at_highest 12 (energy_to 100001 worked_q)); says = refused 13 5 }
    ∷ record { given = lmp_of (case_of (gated 12)) (certificate_of (gated_at_highest 12 worked_q)).price 0 ∷ []; says = neg_ℤ (pos 5200000000) ∷ [] }
    -- both files; the certificate beside a valid case; the certificate alone
    ∷ record { given = run (gated 13) (gated_at_highest 13 worked_q) ++ run (gated 12) (gated_at_highest 13 worked_q); says = refused 3 0 ++ refused 10 0 }
    ∷ record { given = across (λ n. counted (count_of (read_certificate (gated_at_highest n worked_q) 43))) (12 ∷ too_many); says = pos 0 ∷ pos 38 ∷ pos 3 ∷ pos 0 ∷ pos 3 ∷ pos 0 ∷ pos 3 ∷ pos 0 ∷ [] }
    -- lists: 16, whose length is wrong, comes after 3
    ∷ record { given = across (λ n. counted (count_of (write_case (counts_alone n) 442))) (12 ∷ too_many); says = pos 16 ∷ pos 0 ∷ pos 3 ∷ pos 0 ∷ pos 3 ∷ pos 0 ∷ pos 3 ∷ pos 0 ∷ [] }
    ∷ record { given = across (λ n. counted (count_of (write_certificate (counts_alone n) 168))) (12 ∷ too_many); says = pos 16 ∷ pos 0 ∷ pos 3 ∷ pos 0 ∷ pos 3 ∷ pos 0 ∷ pos 3 ∷ pos 0 ∷ [] }
    ∷ []
