-- From the parts of the input to the program's text: which bytes are the case, what is printed, and that it never outgrows
-- its room.
use Rattle.std.specs.Prelude.{Result, Ok, Err}
use mathlib.Core.Path.{◌≡◌, refl, sym, ◌∙◌, ap}
use mathlib.Core.Bool.{Bool}
use mathlib.Core.List.{List}
use Prim.Native.Nat.{ℕ, ◌+◌, ◌-◌, ◌<◌, ◌≤◌, min}
use native.Mathlib.Nat.{zero-add}
use native.Mathlib.Decide.{dec_lt}
use native.Mathlib.Omega.{arith}
use lib.ListN.{length, take, drop, length-append, drop_of_length-le}
use lib.Seq.{take_all}
use borrow.Author.Tests.{le-leb, lt-leb}
use Rattle.market.specs.declared.Refusal.{Refusal}
use Rattle.market.specs.declared.Refusal.TheVariants.{InputLength}
use Rattle.market.specs.declared.Valuation.{Valuation}
use Rattle.market.specs.Bytes.{u32_at}
use Rattle.market.specs.CaseFile.{case_of}
use Rattle.market.specs.Certificate.{certificate_of}
use Rattle.market.specs.Records.{counts_in}
use Rattle.market.specs.Refusals.{Finding, clear, holds, unless, first_of, answered}
use Rattle.market.specs.Outcome.{grounds, valuation, outcome}
use Rattle.market.specs.Program.{report, refusal_line, printed, printed_of, case_in, certificate_in, most_input}
use Rattle.prices.specs.Standing.{Standing}
use Rattle.outcomes.proofs.Passing.{all_standing}
use Rattle.arith.proofs.Buffers.{rest_is}
use Rattle.decimals.specs.declared.Text.{Text}
use Rattle.decimals.specs.Written.{Adds}
use Rattle.printed_lines.specs.Lines.{head_lines, schedule_lines}
use Rattle.printed_lines.specs.Room.{most_text}
use Rattle.printed_lines.proofs.Lines.{refusal_most, head_most, schedule_fits, accepted_lines}
use Rattle.report.specs.Buffer.{report_count, report_buffer}

-- ---- an accepted certificate stands
clear_of : (w v : Valuation) (f : Finding) → answered w f ≡ Ok v → f ≡ clear
clear_of w v clear e = refl
clear_of w v (holds r) e = absurd (let z : ◌≡◌ {A = ℕ} 0 1 = cc in omega arith)

pub accepted_stands : (b q : List ℕ) (v : Valuation) → outcome b q ≡ Ok v → Standing b q (counts_in (case_of b)).resources (counts_in (case_of b)).zones (counts_in (case_of b)).flowgates
unfolding outcome
accepted_stands b q v e =
    all_standing b q (counts_in (case_of b)) (record { none_holds = clear_of (valuation (case_of b) (certificate_of q)) v (first_of (grounds b q)) e; counts = refl })

-- ---- no text is longer than the room
accepted_most : (b q : List ℕ) (v : Valuation) → outcome b q ≡ Ok v → length (report (case_of b) (certificate_of q) (Ok v)) ≤ most_text
accepted_most b q v e =
    let k = certificate_of q in
    rw (← (accepted_lines (case_of b) k v))
    (omega (arith, length-append (head_lines v) (schedule_lines (case_of b) k), head_most v, schedule_fits b k (accepted_stands b q v e).prices.case_bytes))

report_most : (b q : List ℕ) (o : (Result Valuation Refusal)) → outcome b q ≡ o → length (report (case_of b) (certificate_of q) o) ≤ most_text
unfolding report
report_most b q (Err r) e = omega (arith, refusal_most r)
report_most b q (Ok v) e = accepted_most b q v e

-- the text of a refusal
pub refused_text : (b q : List ℕ) (w : Refusal) → outcome b q ≡ Err w → refusal_line w ≡ report (case_of b) (certificate_of q) (outcome b q)
unfolding report
refused_text b q w e = rw e

-- 17
pub printed_long : (input : List ℕ) → most_input < length input → printed input ≡ refusal_line InputLength
unfolding printed
printed_long input h = ap (λ (t : Bool). printed_of input (unless t InputLength)) (lt-leb (length input) most_input h)

-- or what the case and the certificate give
pub printed_parts : (input : List ℕ) → length input ≤ most_input → printed input ≡ report (case_of (case_in input)) (certificate_of (certificate_in input)) (outcome (case_in input) (certificate_in input))
unfolding printed
printed_parts input h = ap (λ (t : Bool). printed_of input (unless t InputLength)) (le-leb (length input) most_input h)

pub printed_most : (input : List ℕ) → length (printed input) ≤ most_text
printed_most input = go (dec_lt most_input (length input))
  where
    go : Dec (most_input < length input) → length (printed input) ≤ most_text
    go (yes h) = rw (printed_long input h) (omega (arith, refusal_most InputLength))
    go (no h) = rw (printed_parts input (omega arith)) (report_most (case_in input) (certificate_in input) (outcome (case_in input) (certificate_in input)) refl)

-- ---- the parts of the input
pub parted : (input : List ℕ) (n : ℕ) → n ≡ min (4 + u32_at input 0) (length input) → (take n input ≡ case_in input) × (drop n input ≡ certificate_in input)
parted input n e = go (dec_lt (length input) (4 + u32_at input 0))
  where
    go : Dec (length input < 4 + u32_at input 0) → (take n input ≡ case_in input) × (drop n input ≡ certificate_in input)
    go (yes h) =
        (take_all n input (omega arith) ∙ sym (take_all (4 + u32_at input 0) input (omega arith)), drop_of_length-le input {i = n} (omega arith) ∙ sym (drop_of_length-le input {i = 4 + u32_at input 0} (omega arith)))
    go (no h) = let k : n ≡ 4 + u32_at input 0 = omega arith in (rw k, rw k)

pub parts_text : (input : List ℕ) (n : ℕ) → n ≡ min (4 + u32_at input 0) (length input) → length input ≤ most_input
    → report (case_of (take n input)) (certificate_of (take (length input - n) (drop n input))) (outcome (take n input) (take (length input - n) (drop n input))) ≡ printed input
parts_text input n e h = let p = parted input n e in rw (rest_is n input, p.0, p.1) (sym (printed_parts input h))

-- ---- the lent buffer
module _ (input old : List ℕ) where
  pub too_short : length old < most_text → (0 ≡ report_count input (length old)) × (old ≡ report_buffer input old)
  unfolding report_count report_buffer
  too_short h = let e = lt-leb most_text (length old) h in (rw e, rw e)

  pub written : (start text : Text) → start.buffer.now ≡ old → start.length ≡ 0 → most_text ≤ length old → Adds (printed input) start text
      → (text.length ≡ report_count input (length old)) × (text.buffer.now ≡ report_buffer input old)
  unfolding report_count report_buffer
  written start text eb el h w = let e = le-leb most_text (length old) h in (rw e (w.1 ∙ rw el (zero-add (length (printed input)))), rw e (w.2 ∙ rw (eb, el, zero-add) refl))

-- a caller finds the text within the buffer
pub count_within : (input : List ℕ) (room r : ℕ) → r ≡ report_count input room → r ≤ room
unfolding report_count
count_within input room r e = go (dec_lt room most_text)
  where
    go : Dec (room < most_text) → r ≤ room
    go (yes h) = let z : r ≡ 0 = e ∙ rw (lt-leb most_text room h) in omega arith
    go (no h) = let z : r ≡ length (printed input) = e ∙ rw (le-leb most_text room (omega arith)) in omega (arith, printed_most input)
