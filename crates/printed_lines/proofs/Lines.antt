-- The program's lines: of records by value they are market's, and none is longer than its room.
use Rattle.market.specs.declared.PerService.{PerService}
use Rattle.market.specs.declared.Kw.{Kw}
use Rattle.std.specs.Prelude.{Ok}
use mathlib.Core.Path.{◌≡◌, refl, sym, ◌∙◌, ap}
use mathlib.Core.List.{List, [], ◌∷◌, ◌++◌, append_assoc}
use Prim.Native.Nat.{ℕ, zero, suc, ◌+◌, ◌*◌, ◌<◌, ◌≤◌}
use native.Mathlib.Omega.{arith}
use lib.IntN.{ℤ, pos}
use lib.ListN.{length, length-append}
use Rattle.arith.specs.Sums.{upto, across}
use Rattle.arith.proofs.Lists.{length-upto, across-upto}
use Rattle.market.specs.declared.Grains.{Grains}
use Rattle.market.specs.declared.Millicents.{Millicents}
use Rattle.market.specs.declared.Refusal.{Refusal}
use Rattle.market.specs.declared.Valuation.{Valuation}
use Rattle.market.specs.Case.{Case}
use Rattle.market.specs.CaseFile.{case_of}
use Rattle.market.specs.CaseCheck.{most_resources, most_zones}
use Rattle.case_records.specs.Places.{CaseBytes}
use Rattle.case_records.proofs.Places.{resources_is, zones_is}
use Rattle.market.specs.Availability.{availability_of, on_line_figure}
use Rattle.market.specs.declared.Availability.{Availability}
use Rattle.market.specs.Certificate.{Certificate}
use Rattle.market.specs.Prices.{lmp_of, zone_prices}
use Rattle.market.specs.Records.{amounts_of, millicents}
use Rattle.market.specs.Refusals.{number_of, place_of}
use Rattle.market.specs.Program.{decimal, line, cost_word, bound_word, gap_word, zone_word, refused_word, place_figures, refusal_line, resource_line, zone_line, report}
use Rattle.prices.specs.declared.ZonePrices.{ZonePrices}
use Rattle.prices.specs.ZonePrices.{zone_prices_of}
use Rattle.decimals.proofs.Digits.{decimal_most}
use Rattle.decimals.proofs.Front.{across_most, line_most, adds_nothing, adds_on, room_left}
use Rattle.decimals.specs.declared.Text.{Text}
use Rattle.decimals.specs.Written.{HasRoom, Adds}
use Rattle.printed_lines.specs.Lines.{amount_figures, value_line, head_lines, resource_text, zone_text, schedule_lines}
use Rattle.printed_lines.specs.Room.{most_value_line, most_head, most_resource_line, most_zone_line, most_schedule, most_refusal}

-- ---- refusals
a_place : (p : ℕ) → 0 < p → place_figures p ≡ pos p ∷ []
a_place zero h = absurd (omega arith)
a_place (suc p) h = refl

module _ (w : Refusal) (n p : ℕ) (en : n ≡ number_of w) (ep : p ≡ place_of w) {x : ℤ} (ex : x ≡ pos n) where
  pub refusal_plain : p ≡ 0 → line refused_word (x ∷ []) ≡ refusal_line w
  unfolding refusal_line
  refusal_plain z = let e : place_of w ≡ 0 = sym ep ∙ z in rw (ex, en, e)

  pub refusal_placed : {y : ℤ} → y ≡ pos p → 0 < p → line refused_word (x ∷ y ∷ []) ≡ refusal_line w
  unfolding refusal_line
  refusal_placed ey l = rw (ex, en, ey, ← ep, a_place p l)

places_most : (p : ℕ) → length (place_figures p) ≤ 1
places_most zero = omega arith
places_most (suc p) = omega arith

pub refusal_most : (r : Refusal) → length (refusal_line r) ≤ most_refusal
unfolding refusal_line
refusal_most r = omega (arith, line_most refused_word (pos (number_of r) ∷ place_figures (place_of r)), places_most (place_of r))

-- ---- cost, bound, gap
pub value_most : (word : List ℕ) (v : Grains) → length (value_line word v) ≤ most_value_line (length word)
value_most word v = line_most word (v.0 ∷ [])

pub head_most : (v : Valuation) → length (head_lines v) ≤ most_head
unfolding head_lines
head_most v =
    let b = value_line bound_word v.bound in
    let g = value_line gap_word v.gap in
    omega (arith, length-append (value_line cost_word v.cost) (b ++ g), length-append b g, value_most cost_word v.cost, value_most bound_word v.bound, value_most gap_word v.gap)

-- ---- resources and zones
-- figures that are those of a record
pub resource_text_is : (i : ℕ) (v : Availability) (a : (PerService Kw)) (p : Millicents) {n t e g c s o l : ℤ} → n ≡ pos (suc i) → t ≡ pos (on_line_figure v)
    → e ≡ a.energy.0 → g ≡ a.regulation.0 → c ≡ a.contingency.0 → s ≡ a.on_line_short_term.0 → o ≡ a.off_line_short_term.0 → l ≡ p.0
    → line (decimal n) (t ∷ e ∷ g ∷ c ∷ s ∷ o ∷ l ∷ []) ≡ resource_text i v a p
unfolding resource_text
resource_text_is i v a p en et ee eg ec es eo el = rw (en, et, ee, eg, ec, es, eo, el)

pub zone_text_is : (z : ℕ) (p : ZonePrices) {n g s m h : ℤ} → n ≡ pos (suc z)
    → g ≡ p.regulating.0 → s ≡ p.spinning.0 → m ≡ p.supplemental.0 → h ≡ p.short_term.0
    → line zone_word (n ∷ g ∷ s ∷ m ∷ h ∷ []) ≡ zone_text z p
unfolding zone_text
zone_text_is z p en eg es em eh = rw (en, eg, es, em, eh)

-- the lines of the first n of a kind, none longer than m, one behind the other
module _ (f : ℕ → List ℕ) (m : ℕ) (most : (i : ℕ) → length (f i) ≤ m) where
  pub lines_most : (n : ℕ) → length (across f (upto n)) ≤ m * n
  lines_most n = rw (ap (λ (k : ℕ). m * k) (sym (length-upto n))) (across_most f m most (upto n))

  pub next_room : (x y : Text) (i n : ℕ) → m * i + m ≤ m * n → HasRoom (m * n) x → Adds (across f (upto i)) x y → HasRoom m y
  next_room x y i n h room a = room_left (across f (upto i)) x y (m * i) m (omega arith) (lines_most i) a

  pub next_line : (x y z : Text) (i n : ℕ) → m * i + m ≤ m * n → HasRoom (m * n) x → Adds (across f (upto i)) x y → Adds (f i) y z → Adds (across f (upto (i + 1))) x z
  next_line x y z i n h room a b = rw (across-upto f i) (adds_on (across f (upto i)) (f i) x y z (omega (arith, lines_most i)) a b)

  pub no_line : (x : Text) → Adds (across f (upto 0)) x x
  unfolding upto across
  no_line x = adds_nothing x

module _ (c : Case) (k : Certificate) where
  pub resource_line_is : (i : ℕ) (v : Availability) (a : (PerService Kw)) (p : Millicents) → v ≡ availability_of (c.resource i) → a ≡ amounts_of k.amount i → p ≡ millicents (lmp_of c k.price i)
      → resource_text i v a p ≡ resource_line c k i
  unfolding resource_text resource_line amounts_of
  resource_line_is i v a p ev ea ep = rw (ev, ea, ep)

  pub zone_line_is : (z : ℕ) (p : ZonePrices) → p ≡ zone_prices_of k.price z → zone_text z p ≡ zone_line k z
  unfolding zone_text zone_line zone_prices_of
  zone_line_is z p e = rw e

  pub resource_most : (i : ℕ) → length (resource_line c k i) ≤ most_resource_line
  unfolding resource_text
  resource_most i =
      let v = availability_of (c.resource i) in
      let a = amounts_of k.amount i in
      let p = millicents (lmp_of c k.price i) in
      rw (← (resource_line_is i v a p refl refl refl)) (omega (arith, line_most (decimal (pos (suc i))) (pos (on_line_figure v) ∷ (amount_figures a ++ (p.0 ∷ []))), decimal_most (pos (suc i))))

  pub zone_most : (z : ℕ) → length (zone_line k z) ≤ most_zone_line
  unfolding zone_line
  zone_most z = omega (arith, line_most zone_word (pos (suc z) ∷ zone_prices k.price z))

  pub resources_most : (n : ℕ) → length (across (resource_line c k) (upto n)) ≤ most_resource_line * n
  resources_most = lines_most (resource_line c k) most_resource_line resource_most

  pub zones_most : (n : ℕ) → length (across (zone_line k) (upto n)) ≤ most_zone_line * n
  zones_most = lines_most (zone_line k) most_zone_line zone_most

  -- ---- all lines
  pub schedule_most : c.resources ≤ most_resources → c.zones ≤ most_zones → length (schedule_lines c k) ≤ most_schedule
  unfolding schedule_lines
  schedule_most hr hz =
      let xs = across (resource_line c k) (upto c.resources) in
      let ys = across (zone_line k) (upto c.zones) in
      omega (arith, length-append xs ys, resources_most c.resources, zones_most c.zones)

  pub schedule_is : (r z : ℕ) → r ≡ c.resources → z ≡ c.zones → across (resource_line c k) (upto r) ++ across (zone_line k) (upto z) ≡ schedule_lines c k
  unfolding schedule_lines
  schedule_is r z er ez = rw (er, ez)

  pub accepted_lines : (v : Valuation) → head_lines v ++ schedule_lines c k ≡ report c k (Ok v)
  unfolding report head_lines schedule_lines
  accepted_lines v =
      let rest = across (resource_line c k) (upto c.resources) ++ across (zone_line k) (upto c.zones) in
      append_assoc (value_line cost_word v.cost) (value_line bound_word v.bound ++ value_line gap_word v.gap) rest
      ∙ ap (λ (t : List ℕ). value_line cost_word v.cost ++ t) (append_assoc (value_line bound_word v.bound) (value_line gap_word v.gap) rest)

pub schedule_fits : (b : List ℕ) (k : Certificate) {r z f : ℕ} → CaseBytes b r z f → length (schedule_lines (case_of b) k) ≤ most_schedule
schedule_fits b k h = schedule_most (case_of b) k (omega (arith, resources_is h, h.counts.most_resources)) (omega (arith, zones_is h, h.counts.most_zones))
