-- A resource's parts, and the parts together: what grounds 5, 6 and 7 ask, from the tests that the code makes.
use Rattle.std.proofs.Common.{◌≡◌, ℕ, ◌+◌, ◌*◌, ◌<◌, ◌≤◌, true, ◌&&◌, leb, List, sym, ◌∙◌, arith, le-leb, leb-true}
use Rattle.arith.specs.Sums.{upto, all}
use Rattle.market.specs.Bytes.{u32_at, within}
use Rattle.market.specs.Case.{Resource, width_of}
use Rattle.market.specs.Version.{version_in}
use Rattle.market.specs.CaseFile.{resource_at, resource_in, behind_flags, behind_minimum}
use Rattle.market.specs.CaseCheck.{ramps, reserve_prices, resource_in_range, energy_steps_right, pairs_ordered}
use Rattle.case_ranges.specs.Pieces.{number_at_most, state_in_range}
use Rattle.case_ranges.proofs.Laws.{from_zero}
use Rattle.case_ranges.proofs.Places.{other_powers_of, starts_run}
use Rattle.case_soundness.specs.Sound.{SoundPair, SoundPowers, SoundOffer, SoundResource}
use Rattle.case_soundness.proofs.Tests.{both}
use Rattle.case_soundness.proofs.Ranks.{rank_at, rank_before, Rising, offer_in_range, offer_right_lem}

pub pair_sound : (low high : ℕ) → (leb high 2000000 && leb low high) ≡ true → SoundPair low high
pair_sound low high t =
    let h = both (leb high 2000000) (leb low high) t in
    record {
      low_in_range = sym (from_zero 2000000 low) ∙ le-leb low 2000000 (omega (arith, leb-true high 2000000 h.0, leb-true low high h.1));
      high_in_range = sym (from_zero 2000000 high) ∙ h.0;
      ordered = h.1;
    }

-- ---- the resource at a place
module _ (b : List ℕ) (at : ℕ) where
  abbrev flagged : ℕ → ℕ
  flagged offset = at + behind_flags (version_in b) offset

  abbrev limited : ℕ → ℕ
  limited offset = at + behind_minimum (version_in b) offset

  -- a pair of neighbours, whose second stands four bytes on
  next_flagged : (offset : ℕ) → at + (behind_flags (version_in b) offset + 4) ≡ flagged (offset + 4)
  next_flagged offset = omega arith

  abbrev neighbours : ℕ → Type 0
  neighbours offset = SoundPair (u32_at b (flagged offset)) (u32_at b (at + (behind_flags (version_in b) offset + 4)))

  pub powers_sound : neighbours 10 → neighbours 18 → SoundPair (resource_in b at).emergency_min (resource_in b at).emergency_max → all (number_at_most 2000000 b (limited 42)) (upto 4) ≡ true → SoundPowers (resource_in b at)
  unfolding all resource_at other_powers_of pairs_ordered
  powers_sound first second emergency others =
      let economic = rw (next_flagged 10) at first in
      let regulating = rw (next_flagged 18) at second in
      record {
        in_range = rw (economic.low_in_range, economic.high_in_range, regulating.low_in_range, regulating.high_in_range, emergency.low_in_range, emergency.high_in_range) (sym (starts_run b at 2000000) ∙ others);
        ordered = rw (economic.ordered, regulating.ordered) emergency.ordered;
      }

  -- of its energy steps
  abbrev pub widths_at : ℕ → ℕ
  widths_at j = u32_at b (limited 70 + j * 8)

  abbrev pub prices_at : ℕ → ℕ
  prices_at j = u32_at b (limited 74 + j * 8)

  -- from what the loop over them has kept, and its last test
  pub offer_sound : {last sum j : ℕ} → j ≡ 10 → last ≡ rank_before widths_at prices_at j → sum ≡ width_of widths_at j → ((k : ℕ) → k < j → Rising widths_at prices_at k) → (leb last 1600001 && leb sum 2000000) ≡ true → SoundOffer (resource_in b at)
  unfolding resource_at energy_steps_right
  offer_sound {last} {sum} e l s rising t =
      let low = both (leb last 1600001) (leb sum 2000000) t in
      let risen = rw e at rising in
      let reached : rank_at widths_at prices_at 9 ≤ 1600001 = omega (arith, rw e at l, leb-true last 1600001 low.0) in
      let width : width_of widths_at 10 ≤ 2000000 = omega (arith, rw e at s, leb-true sum 2000000 low.1) in
      record {
        in_range = offer_in_range widths_at prices_at 9 risen reached width;
        steps_right = rw (offer_right_lem widths_at prices_at 9 risen reached) (le-leb (width_of widths_at 10) 2000000 width);
      }

-- ---- a resource from its parts
pub resource_sound : (zones : ℕ) (r : Resource) → state_in_range zones r ≡ true → SoundPowers r → all (within 0 400000) (ramps r) ≡ true → all (within 0 400000) (reserve_prices r) ≡ true → SoundOffer r → SoundResource zones r
unfolding resource_in_range
resource_sound zones r state powered ramping priced offered =
    record {
      in_range = rw (state, powered.in_range, ramping, priced) offered.in_range;
      steps_right = offered.steps_right;
      ordered = powered.ordered;
    }
