-- The bytes of a case past 3 and 4, so those of a valid case, are those of a whole case.
use Rattle.std.proofs.Common.{ℕ, T, List, length, refl, eqb→eq}
use Rattle.market.specs.Bytes.{u8_at}
use Rattle.market.specs.Version.{version_in}
use Rattle.market.specs.CaseFile.{case_of, case_as, case_size}
use Rattle.market.specs.CaseCheck.{counts_right, case_size_right}
use Rattle.market.specs.Outcome.{Valid}
use Rattle.market.proofs.Passed.{case_passed}
use Rattle.market.proofs.Ranges.{counts_most}
use Rattle.wire.specs.CaseBytes.{CaseBytes}

pub whole_case : (b : List ℕ) → T (counts_right (case_of b).resources (case_of b).zones (case_of b).flowgates) → T (case_size_right b (case_of b)) → CaseBytes b (case_of b).resources (case_of b).zones (case_of b).flowgates
unfolding case_as case_size_right
whole_case b counts size =
    record {
      resources = refl;
      zones = refl;
      flowgates = refl;
      counts = counts_most (u8_at b 5) (u8_at b 6) (u8_at b 7) counts;
      size = eqb→eq (length b) (case_size (version_in b) (u8_at b 5) (u8_at b 6) (u8_at b 7)) size;
    }

pub valid_case : (b : List ℕ) → Valid b → CaseBytes b (case_of b).resources (case_of b).zones (case_of b).flowgates
valid_case b v = let p = case_passed b v in whole_case b p.counts_right p.size_right
