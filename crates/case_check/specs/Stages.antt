-- The stages of the case check: what each tests, and what is known past it (01, 'How each operation refuses').
use Rattle.std.specs.Prelude.{◌≡◌, Bool, true, ◌&&◌, List, [], ◌∷◌, ℕ}
use Rattle.market.specs.declared.Refusal.TheVariants.{CaseLength, CaseVersion, Counts, CaseSize}
use Rattle.market.specs.declared.Counts as C
use Rattle.arith.specs.Sums.{all}
use Rattle.market.specs.Bytes.{within}
use Rattle.market.specs.Case.{Case, reserves, curves}
use Rattle.market.specs.CaseFile.{least_case_size, case_of}
use Rattle.market.specs.CaseCheck.{length_right, version_right, counts_right, case_size_right, reserve_in_range, fields_in_range, steps_rule, limits_ordered}
use Rattle.market.specs.Refusals.{Finding, unless}
use Rattle.wire.specs.CaseBytes.{CaseBytes}
use Rattle.case_ranges.specs.Pieces.{curve_in_range}
use Rattle.case_check.specs.Pieces.{curve_right}

-- 1 to 4
unfoldable pub shape_grounds : List ℕ → List Finding
shape_grounds b =
    unless (length_right least_case_size b) CaseLength
    ∷ unless (version_right b) CaseVersion
    ∷ unless (counts_right (case_of b).resources (case_of b).zones (case_of b).flowgates) Counts
    ∷ unless (case_size_right b (case_of b)) CaseSize
    ∷ []

-- the bytes are past 1 to 4 with these counts
abbrev pub CaseBytesOf : List ℕ → C.Counts → Type 0
CaseBytesOf b n = CaseBytes b n.resources n.zones n.flowgates

-- 5 and 6 of the demand, the reserves' terms and the demand curves
abbrev pub head_right : Case → Bool
head_right c =
    within 0 128000000 c.demand && all (reserve_in_range c) reserves && all (curve_in_range c) (curves c.version) && all (curve_right c) (curves c.version)

-- 5 to 7 pass
pub record SoundCase (c : Case) : Type 0 where
  pub in_range : fields_in_range c ≡ true
  pub steps_right : steps_rule c ≡ true
  pub ordered : limits_ordered c ≡ true
