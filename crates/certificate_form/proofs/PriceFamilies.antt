-- Ground 12 by families of rows, and each family by its places in the file.
use mathlib.Core.Path.{◌≡◌, refl, sym, ap, ◌∙◌, subst}
use mathlib.Core.Bool.{Bool, true, ◌&&◌}
use mathlib.Core.List.{List, ◌++◌, map}
use lib.ListN.{length}
use Prim.Native.Nat.{ℕ, ◌+◌, ◌*◌}
use native.Mathlib.Omega.{arith}
use lib.IntN.{pos, neg_ℤ}
use Rattle.arith.specs.Sums.{upto, all}
use Rattle.arith.proofs.AllTests.{all_append, all_map, all-across}
use Rattle.market.specs.declared.version.Version.{Version}
use Rattle.market.specs.declared.version.Version.TheVariants.{First as first}
use Rattle.market.specs.Version.{version_in}
use Rattle.market.specs.declared.Counts.{Counts}
use Rattle.market.specs.Bytes.{u32_at, i32_at, within, within_ℤ}
use Rattle.market.specs.Case.{Case, zoned_curves, curves}
use Rattle.market.specs.UpperBounds.{services}
use Rattle.market.specs.Certificate.{balance_price_place, market_prices_place, zone_prices_place, amounts_place, price_at, certificate_of, certificate_as}
use Rattle.market.specs.Records.{counts_in}
use Rattle.market.specs.Rows.{Row, balance_row, market_row, zone_row, flowgate_row, limit_row, limits, market_rows, zone_rows, flowgate_rows, limit_rows, rows}
use Rattle.market.specs.Outcome.{price_right}
use Rattle.case_ranges.specs.Pieces.{number_at_most}
use Rattle.certificate_records.specs.CertificateBytes.{CertificateBytes}
use Rattle.certificate_records.specs.declared.SizedCertificate.{SizedCertificate}
use Rattle.certificate_records.specs.Reader.{counts_of, certificate_in}
use Rattle.certificate_form.specs.PricePlaces.{zone_priced, limits_priced}

abbrev small : List ℕ → ℕ → Bool
small q p = within 0 400000000 (u32_at q p)

market_run : (version : Version) (q : List ℕ) → all (price_right (certificate_as version q)) (map market_row (curves version)) ≡ all (number_at_most 400000000 q (market_prices_place version)) (upto (length (curves version)))
unfolding all upto certificate_as price_at
market_run first q = refl

module _ (q : List ℕ) where
  abbrev right : Row → Bool
  right = price_right (certificate_of q)

  balance_run : right balance_row ≡ within_ℤ (neg_ℤ (pos 400000000)) (pos 400000000) (i32_at q (balance_price_place (version_in q)))
  unfolding certificate_as price_at
  balance_run = refl

  zone_run : (z : ℕ) → all right (map (zone_row z) zoned_curves) ≡ zone_priced q z
  unfolding all upto certificate_as price_at
  zone_run z = refl

  module _ (r z f : ℕ) (h : CertificateBytes q r z f) where
    flowgate_run : (g : ℕ) → right (flowgate_row g) ≡ number_at_most 400000 q (zone_prices_place (version_in q) z) g
    unfolding certificate_as price_at
    flowgate_run g = rw h.zones_are

    limit_run : (i : ℕ) → all right (map (limit_row i) (limits (version_in q))) ≡ limits_priced q z f i
    unfolding all upto certificate_as price_at
    limit_run i =
        let p = amounts_place (version_in q) z f i in
        let s = length (services (version_in q)) * 4 in
        let e₀ : p + s ≡ p + s + 0 = omega arith in
        let e₁ : p + (s + 4) ≡ p + s + 4 = omega arith in
        let e₂ : p + (s + 8) ≡ p + s + 8 = omega arith in
        let e₃ : p + (s + 12) ≡ p + s + 12 = omega arith in
        let e₄ : p + (s + 16) ≡ p + s + 16 = omega arith in
        rw (h.zones_are, h.flowgates_are) (λ i. small q (e₀ i) && (small q (e₁ i) && (small q (e₂ i) && (small q (e₃ i) && (small q (e₄ i) && true)))))

-- the families of a case's rows, one after the other
by_families : (t : Row → Bool) (c : Case) → all t (rows c) ≡ (t balance_row && (all t (market_rows c) && (all t (zone_rows c) && (all t (flowgate_rows c) && all t (limit_rows c)))))
unfolding rows all
by_families t c =
    rw (all_append t (market_rows c) (zone_rows c ++ (flowgate_rows c ++ limit_rows c)), all_append t (zone_rows c) (flowgate_rows c ++ limit_rows c), all_append t (flowgate_rows c) (limit_rows c))

-- as the code goes through them
abbrev pub prices_at : List ℕ → Counts → Bool
prices_at q n =
    within_ℤ (neg_ℤ (pos 400000000)) (pos 400000000) (i32_at q (balance_price_place (version_in q)))
    && (all (number_at_most 400000000 q (market_prices_place (version_in q))) (upto (length (curves (version_in q))))
    && (all (zone_priced q) (upto n.zones)
    && (all (number_at_most 400000 q (zone_prices_place (version_in q) n.zones)) (upto n.flowgates) && all (limits_priced q n.zones n.flowgates) (upto n.resources))))

module _ (q : List ℕ) (c : Case) (h : CertificateBytes q c.resources c.zones c.flowgates) (e : c.version ≡ version_in q) where
  market_family : all (right q) (market_rows c) ≡ all (number_at_most 400000000 q (market_prices_place (version_in q))) (upto (length (curves (version_in q))))
  market_family = ap (λ (version : Version). all (right q) (map market_row (curves version))) e ∙ market_run (version_in q) q

  zone_family : all (right q) (zone_rows c) ≡ all (zone_priced q) (upto c.zones)
  zone_family = all-across (right q) (λ z. map (zone_row z) zoned_curves) (upto c.zones) ∙ (λ i. all (λ z. zone_run q z i) (upto c.zones))

  flowgate_family : all (right q) (flowgate_rows c) ≡ all (number_at_most 400000 q (zone_prices_place (version_in q) c.zones)) (upto c.flowgates)
  flowgate_family = all_map (right q) flowgate_row (upto c.flowgates) ∙ (λ i. all (λ g. flowgate_run q c.resources c.zones c.flowgates h g i) (upto c.flowgates))

  limit_family : all (right q) (limit_rows c) ≡ all (limits_priced q c.zones c.flowgates) (upto c.resources)
  limit_family =
      all-across (right q) (λ r. map (limit_row r) (limits c.version)) (upto c.resources)
      ∙ ap (λ (version : Version). all (λ r. all (right q) (map (limit_row r) (limits version))) (upto c.resources)) e
      ∙ (λ i. all (λ r. limit_run q c.resources c.zones c.flowgates h r i) (upto c.resources))

  by_place : all (right q) (rows c) ≡ prices_at q (counts_in c)
  by_place = by_families (right q) c ∙ (λ i. balance_run q i && (market_family i && (zone_family i && (flowgate_family i && limit_family i))))

pub prices_by_place : (p : SizedCertificate) (c : Case) → counts_of p ≡ counts_in c → all (price_right (certificate_in p)) (rows c) ≡ prices_at p.bytes.now (counts_of p)
prices_by_place p c e =
    let q = p.bytes.now in
    subst (λ (n : Counts). CertificateBytes q n.resources n.zones n.flowgates → n.version ≡ version_in q → all (right q) (rows c) ≡ prices_at q n) (sym e) (by_place q c) p.whole refl
