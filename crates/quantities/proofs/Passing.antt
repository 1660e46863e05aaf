-- The stages are the grounds in their order; what is known past 1 to 11, and past 1 to 13.
-- Later crates take from here that a case and a certificate that have passed stand.
use Rattle.std.specs.Prelude.{Result, Ok, Err, IfOk}
use mathlib.Core.Path.{◌≡◌, refl, sym, ◌∙◌, ap, subst}
use mathlib.Core.List.{List, [], ◌∷◌, ◌++◌}
use Prim.Native.Nat.{ℕ}
use native.Mathlib.Omega.{arith}
use Rattle.arith.specs.Sums.{all}
use Rattle.arith.proofs.Lists.{each_split}
use Rattle.market.specs.declared.Refusal.{Refusal}
use Rattle.market.specs.declared.Refusal.TheVariants as R
use Rattle.market.specs.declared.Counts.{Counts}
use Rattle.market.specs.CaseFile.{case_of, case_as}
use Rattle.market.specs.Certificate.{certificate_of}
use Rattle.market.specs.Records.{counts_in}
use Rattle.market.specs.Rows.{rows}
use Rattle.market.specs.Refusals.{Finding, clear, holds, answered, first_of, AllClear}
use Rattle.market.specs.Outcome.{Valid, case_grounds, form_grounds, price_ground, bound_ground, grounds_to11, grounds_to12, grounds_to13, price_right}
use Rattle.market.proofs.Grounds.{none_holds, unless_clear, first_earlier, first_later, first_of_one}
use Rattle.market.proofs.Ranges.{valid_ranges, bounded}
use Rattle.case_check.proofs.Passing.{passed_clear, refused_holds}
use Rattle.case_records.specs.Places.{CaseBytes}
use Rattle.case_records.proofs.Places.{valid_bytes}
use Rattle.certificate_form.proofs.Forms.{form_bytes}
use Rattle.prices.specs.Standing.{PricesStand, Standing}
use Rattle.capabilities.specs.Kept.{Kept}
use Rattle.capabilities.specs.declared.Capability.{Capability}
use Rattle.quantities.specs.Filing.{FiledWith, Decided}

-- ---- a stage after an earlier one: the answer of the grounds gs, then of those that follow
module _ {A : Type 0} (n : A) (gs : List Finding) where
  pub stays : (hs : List Finding) (w : Refusal) → answered n (first_of gs) ≡ Err w → answered n (first_of (gs ++ hs)) ≡ Err w
  stays hs w h = ap (answered n) (first_earlier gs hs w (refused_holds n w (first_of gs) h))

  pub goes_on : (hs : List Finding) (m : A) → answered n (first_of gs) ≡ Ok m → answered n (first_of (gs ++ hs)) ≡ answered m (first_of hs)
  goes_on hs m h = let p = passed_clear n m (first_of gs) h in rw (first_later gs hs p.0, p.1) refl

  -- by one ground
  pub one_more : (g : Finding) (m : A) → answered n (first_of gs) ≡ Ok m → answered n (first_of (gs ++ (g ∷ []))) ≡ answered m g
  one_more g m h = goes_on (g ∷ []) m h ∙ ap (answered m) (first_of_one g)

-- ---- past 1 to 11
module _ (b q : List ℕ) where
  case_bytes : Valid b → CaseBytes b (case_of b).resources (case_of b).zones (case_of b).flowgates
  unfolding case_as
  case_bytes v = valid_bytes b v

  filing : Valid b → AllClear (form_grounds (case_of b) q (certificate_of q)) → FiledWith b q (counts_in (case_of b))
  filing v h = record { counts = refl; case_bytes = case_bytes v; certificate_bytes = form_bytes q (case_of b) (valid_ranges b v).counts h; valid = v }

  pub filed : (n : Counts) (s : Result Counts Refusal) → answered (counts_in (case_of b)) (first_of (case_grounds b)) ≡ Ok n → s ≡ answered n (first_of (form_grounds (case_of b) q (certificate_of q))) → IfOk s (FiledWith b q)
  filed n s h e = rw e (by (first_of (form_grounds (case_of b) q (certificate_of q))) refl)
    where
      by : (f : Finding) → first_of (form_grounds (case_of b) q (certificate_of q)) ≡ f → IfOk (answered n f) (FiledWith b q)
      by (holds w) k = tt
      by clear k =
          let p = passed_clear (counts_in (case_of b)) n (first_of (case_grounds b)) h in
          let v : Valid b = none_holds (case_grounds b) p.0 in
          rw p.1 (filing v (none_holds (form_grounds (case_of b) q (certificate_of q)) k))

-- ---- past 1 to 12
pub priced : {b q : List ℕ} {n : Counts} → FiledWith b q n → price_ground (case_of b) (certificate_of q) ≡ clear → PricesStand b q n.resources n.zones n.flowgates
priced {b} {q} h prices =
    record {
      case_bytes = h.case_bytes;
      certificate_bytes = h.certificate_bytes;
      valid = h.valid;
      in_range = unless_clear (all (price_right (certificate_of q)) (rows (case_of b))) R.PriceRange prices;
    }

-- ---- what is decided of each resource is kept once it is written; where something is refused nothing need be
pub undecided : {b : List ℕ} {s : Result Counts Refusal} {w : Refusal} {k : List Capability} → s ≡ Err w → Decided b s k
undecided h = record { known = λ n e. absurd (let z : ◌≡◌ {A = ℕ} 0 1 = cc in omega arith) }

pub decided : {b : List ℕ} {k : List Capability} (n : Counts) (s : Result Counts Refusal) (f : Finding) → Kept (case_of b) n.resources k → s ≡ answered n f → Decided b s k
decided {b} {k} n s clear h e = record { known = λ m o. let same : n ≡ m = cc in rw (← same) h }
decided {b} {k} n s (holds w) h e = undecided e

-- ---- past 1 to 13
pub standing : (b q : List ℕ) → first_of (grounds_to13 b q) ≡ clear → Standing b q (case_of b).resources (case_of b).zones (case_of b).flowgates
unfolding grounds_to11 grounds_to12 grounds_to13
standing b q h =
    let c = case_of b in
    let k = certificate_of q in
    let to13 = each_split (λ g. g ≡ clear) (grounds_to12 b q) (bound_ground c k ∷ []) (none_holds (grounds_to13 b q) h) in
    let to12 = each_split (λ g. g ≡ clear) (grounds_to11 b q) (price_ground c k ∷ []) to13.0 in
    let to11 = each_split (λ g. g ≡ clear) (case_grounds b) (form_grounds c q k) to12.0 in
    named to11.0 to11.1 to12.1.0 to13.1.0
  where
    named : Valid b → AllClear (form_grounds (case_of b) q (certificate_of q)) → price_ground (case_of b) (certificate_of q) ≡ clear → bound_ground (case_of b) (certificate_of q) ≡ clear → Standing b q (case_of b).resources (case_of b).zones (case_of b).flowgates
    named valid form prices amounts = record { prices = priced (filing b q valid form) prices; bounded = bounded (case_of b) (certificate_of q) amounts }

-- of the stage's answer
module _ (b q : List ℕ) (n : Counts) (h : answered (counts_in (case_of b)) (first_of (grounds_to13 b q)) ≡ Ok n) where
  pub passed_counts : n ≡ counts_in (case_of b)
  passed_counts = (passed_clear (counts_in (case_of b)) n (first_of (grounds_to13 b q)) h).1

  pub passed_standing : Standing b q n.resources n.zones n.flowgates
  passed_standing = subst (λ (m : Counts). Standing b q m.resources m.zones m.flowgates) (sym passed_counts) (standing b q (passed_clear (counts_in (case_of b)) n (first_of (grounds_to13 b q)) h).0)
