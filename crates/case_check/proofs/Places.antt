-- Grounds 6 and 7 as the code goes through them, and 5 to 7 together.
use Rattle.std.proofs.Common.{◌≡◌, ℕ, ◌<◌, true, ◌&&◌, List}
use Rattle.arith.specs.Sums.{upto, all}
use Rattle.market.specs.Bytes.{within}
use Rattle.market.specs.Version.{version_in}
use Rattle.market.specs.Case.{reserves, curves}
use Rattle.market.specs.CaseFile.{case_of, case_as}
use Rattle.market.specs.CaseCheck.{reserve_in_range, flowgate_in_range, steps_rule, limits_ordered}
use Rattle.wire.specs.CaseBytes.{CaseBytes}
use Rattle.case_ranges.specs.Pieces.{curve_in_range, zone_in_range, resource_numbered_in_range}
use Rattle.case_ranges.proofs.Places.{fields_in_turn}
use Rattle.case_soundness.specs.Sound.{SoundResource}
use Rattle.arith.proofs.Ranges.{all_below}
use Rattle.case_check.specs.Pieces.{curve_right, offer_right, limits_right}
use Rattle.case_check.specs.Stages.{head_right, SoundCase}
use Rattle.case_soundness.proofs.Tests.{both}

module _ {b : List ℕ} {r z f : ℕ} (h : CaseBytes b r z f) where
  pub steps_in_turn : steps_rule (case_of b) ≡ (all (curve_right (case_of b)) (curves (version_in b)) && all (offer_right (case_of b)) (upto r))
  unfolding steps_rule case_as
  steps_in_turn = rw h.resources

  pub limits_in_turn : limits_ordered (case_of b) ≡ all (limits_right (case_of b)) (upto r)
  unfolding limits_ordered case_as
  limits_in_turn = rw h.resources

  numbered_in_range : ((i : ℕ) → i < r → SoundResource z ((case_of b).resource i)) → all (resource_numbered_in_range (case_of b)) (upto r) ≡ true
  unfolding case_as
  numbered_in_range sound = all_below (resource_numbered_in_range (case_of b)) r (λ i l. rw h.zones at (sound i l).in_range)

  -- 5 to 7, from the head, the zones, the resources and the flowgates
  pub case_sound : {head : List ℕ} → head ≡ b → head_right (case_of head) ≡ true → all (zone_in_range (case_of b)) (upto z) ≡ true → ((i : ℕ) → i < r → SoundResource z ((case_of b).resource i)) → all (flowgate_in_range (case_of b)) (upto f) ≡ true → SoundCase (case_of b)
  unfolding case_as
  case_sound e headed zoned sound limited =
      let c = case_of b in
      let h1 = both (within 0 128000000 c.demand && all (reserve_in_range c) reserves && all (curve_in_range c) (curves c.version)) (all (curve_right c) (curves c.version)) (rw e at headed) in
      let h2 = both (within 0 128000000 c.demand && all (reserve_in_range c) reserves) (all (curve_in_range c) (curves c.version)) h1.0 in
      let h3 = both (within 0 128000000 c.demand) (all (reserve_in_range c) reserves) h2.0 in
      record {
        in_range = rw (fields_in_turn h, h3.0, h3.1, h2.1, zoned, numbered_in_range sound) limited;
        steps_right = rw (steps_in_turn, h1.1) (all_below (offer_right (case_of b)) r (λ i l. (sound i l).steps_right));
        ordered = rw limits_in_turn (all_below (limits_right (case_of b)) r (λ i l. (sound i l).ordered));
      }
