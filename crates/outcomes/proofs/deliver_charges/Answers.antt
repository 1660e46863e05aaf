use Rattle.std.proofs.lemmas.Result.{err_from_is_err_and}
use Rattle.outcomes.proofs.Files.{of_files}
use Rattle.std.proofs.Common.{List, ℕ, ◌++◌, drop, ◌≡◌, sym, ◌∙◌, ap}
use Rattle.market.specs.declared.Counts.{Counts}
use Rattle.market.specs.CaseFile.{case_of}
use Rattle.market.specs.CaseCheck.{CountsWithin}
use Rattle.market.specs.Certificate.{certificate_of}
use Rattle.market.specs.Charges.{charge_count, charge_count_of}
use Rattle.market.specs.Outcome.{grounds, listed_charges, charge_answer, charge_buffer, charge_grounds}
use Rattle.market.specs.Records.{counts_in}
use Rattle.market.proofs.Lengths.{charge_count_lem}
use Rattle.outcomes.specs.Checked.{AcceptedWith}
use Rattle.outcomes.proofs.Passing.{accepted_by, all_standing}
use Rattle.outcomes.proofs.Lent.{lent_refused, lent_short, lent_written}
use Rattle.outcomes.proofs.deliver_charges.Goals as goal
use Rattle.outcomes.proofs.deliver_charges.Goals.{In_ok-n}

stands : (c : In_ok-n) → AcceptedWith c.args.b.now c.args.q.now c.in_ok-n.n
stands c = accepted_by c.args.b.now c.args.q.now _ (sym c.rows_stage.ensures.0 ∙ c.in_ok-n.was)

few : (c : In_ok-n) → CountsWithin c.in_ok-n.n.resources c.in_ok-n.n.zones c.in_ok-n.n.flowgates
few c = (all_standing c.args.b.now c.args.q.now _ (stands c)).prices.case_bytes.counts

pub returns-in_err-n : goal.returns-in_err-n
unfolding charge_answer charge_buffer charge_grounds
returns-in_err-n c =
    let b = c.args.b.now in
    let q = c.args.q.now in
    let p = err_from_is_err_and c.from_residual.result c.from_residual.ensures.1 in
    rw (p.1, p.2) (lent_refused (grounds b q) (charge_count (case_of b)) (listed_charges b q) c.args.out.now (counts_in (case_of b)) _ (sym c.rows_stage.ensures.0 ∙ c.in_err-n.was))

needed : (c : In_ok-n) → let n = c.in_ok-n.n in charge_count_of n.version n.resources n.zones n.flowgates ≡ charge_count (case_of c.args.b.now)
needed c = ap (λ (m : Counts). charge_count_of m.version m.resources m.zones m.flowgates) (stands c).counts

pub returns-in_err-room : goal.returns-in_err-room
unfolding charge_answer charge_buffer charge_grounds
returns-in_err-room c =
    let b = c.args.b.now in
    let q = c.args.q.now in
    let s = (goal.at.returns-in_err-room c).In_ok-n in
    let p = err_from_is_err_and c.from_residual-in_err-room.result c.from_residual-in_err-room.ensures.1 in
    rw (p.1, p.2) (lent_short (grounds b q) (charge_count (case_of b)) (listed_charges b q) c.args.out.now (stands s).none_holds _ (sym (rw (c.charge_count.ensures ∙ needed s) at c.room.ensures.answer) ∙ c.in_err-room.was))

pub charge_count-requires : goal.charge_count-requires
charge_count-requires c = few (goal.at.charge_count-requires c).In_ok-n

pub kept_case-requires : goal.kept_case-requires
kept_case-requires c = (all_standing c.args.b.now c.args.q.now _ (stands (goal.at.kept_case-requires c).In_ok-n), c.rows_stage.ensures.1.known _ c.in_ok-n.was)

pub write_charges-requires : goal.write_charges-requires
write_charges-requires c =
    let s = stands (goal.at.write_charges-requires c).In_ok-n in
    rw (c.kept_case.ensures.case, c.kept_case.ensures.resources, c.kept_case.ensures.zones, c.kept_case.ensures.flowgates, ← ap (λ (m : Counts). m.version) s.counts)
    (rw c.charge_count.ensures at c.in_ok-room.ensures.enough)

pub returns : goal.returns
unfolding charge_answer charge_buffer charge_grounds
returns c =
    let b = c.args.b.now in
    let q = c.args.q.now in
    let s = (goal.at.returns c).In_ok-n in
    let written = λ (b : List ℕ) (q : List ℕ). listed_charges b q ++ drop (charge_count (case_of b)) c.args.out.now in
    lent_written (grounds b q) (charge_count (case_of b)) (listed_charges b q) c.args.out.now (stands s).none_holds _ (sym (rw (c.charge_count.ensures ∙ needed s) at c.room.ensures.answer) ∙ c.in_ok-room.was) (charge_count_lem (case_of b) (certificate_of q).amount (certificate_of q).price) (c.write_charges.ensures ∙ of_files written c.kept_case.ensures.case c.kept_case.ensures.certificate)
