-- What a file is that has passed the grounds of reading but 15.
use mathlib.Core.Path.{◌≡◌, refl, sym, ◌∙◌, ap, subst}
use mathlib.Core.List.{List}
use Prim.Native.Nat.{ℕ}
use Rattle.market.specs.declared.Counts.{Counts}
use Rattle.market.specs.Version.{version_in}
use Rattle.market.specs.Bytes.{u8_at}
use Rattle.market.specs.CaseFile.{case_of, case_as}
use Rattle.market.specs.Records.{counts_in}
use Rattle.market.specs.Refusals.{clear, first_of}
use Rattle.market.specs.Numbers.{certificate_file_grounds}
use Rattle.market.proofs.Grounds.{none_holds}
use Rattle.market.proofs.Ranges.{counts_most}
use Rattle.market.proofs.RoundTrips.{certificate_right}
use Rattle.market.proofs.FileSizes.{case_fills}
use Rattle.market.specs.Refusals.{answered}
use Rattle.case_check.proofs.Passing.{passed_bytes}
use Rattle.fields.specs.declared.File.{File}
use Rattle.fields.specs.declared.File.TheVariants.{Case, Certificate}
use Rattle.read_numbers.specs.FileBytes.{FileBytes}
use Rattle.read_numbers.specs.Reading.{filed_counts, reading_grounds}

past : (file : File) (b : List ℕ) → first_of (reading_grounds file b) ≡ clear → FileBytes file b (version_in b) (u8_at b 5) (u8_at b 6) (u8_at b 7)
unfolding case_as
past Case b h =
    let c = passed_bytes b (counts_in (case_of b)) (ap (answered (counts_in (case_of b))) h) in
    record {
      version_is = refl;
      resources = refl;
      zones = refl;
      flowgates = refl;
      counts = c.counts;
      filled = c.size ∙ sym (case_fills (version_in b) (u8_at b 5) (u8_at b 6) (u8_at b 7));
    }
past Certificate b h =
    let right = certificate_right b (none_holds (certificate_file_grounds b) h) in
    let most = counts_most (u8_at b 5) (u8_at b 6) (u8_at b 7) right.counts in
    record {
      version_is = refl;
      resources = refl;
      zones = refl;
      flowgates = refl;
      counts = most;
      filled = right.filled;
    }

-- with its counts n
pub passed : (file : File) (b : List ℕ) (n : Counts) → first_of (reading_grounds file b) ≡ clear → n ≡ filed_counts b → FileBytes file b n.version n.resources n.zones n.flowgates
passed file b n h e = subst (λ (m : Counts). FileBytes file b m.version m.resources m.zones m.flowgates) (sym e) (past file b h)
