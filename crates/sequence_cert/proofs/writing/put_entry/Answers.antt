use Rattle.std.proofs.Common.{◌≡◌, ℕ, List, [], ◌∷◌, ◌++◌, ap, ◌∙◌, Some, None, append_assoc}
use Rattle.std.specs.Prelude.{codes}
use Rattle.cert_lines.specs.Numbers.{number_text}
use Rattle.cert_lines.specs.Rows.{line_text, state_entry, row_entry, row_text}
use Rattle.cert_text.proofs.PutTexts.{puts_as, ◌▹◌}
use Rattle.sequence_cert.specs.SequenceText.{row_by}
use Rattle.sequence_cert.specs.inner.Pieces.{state_text, cited_text}
use Rattle.sequence_cert.proofs.writing.put_entry.Goals as goal

bound_spelled : (rem starts : List ℕ) (least : ℕ) → line_text (state_entry rem starts least None)
    ≡ codes "bound" ++ (state_text rem starts ++ (number_text least ++ 10 ∷ []))
unfolding row_text
bound_spelled rem starts least = simp append_assoc

branch_spelled : (rem starts : List ℕ) (least : ℕ) (cites : List ℕ)
    → line_text (state_entry rem starts least (Some cites)) ≡ codes "branch" ++ cited_text rem starts least cites
unfolding row_text
branch_spelled rem starts least cites = simp append_assoc

charge_spelled : (rem starts : List ℕ) (least : ℕ) (cites : List ℕ)
    → line_text (row_entry rem starts least cites) ≡ codes "charge" ++ cited_text rem starts least cites
unfolding row_text
charge_spelled rem starts least cites = simp append_assoc

pub returns-in-Bound : goal.returns-in-Bound
returns-in-Bound g c =
    let e = c.args.entry.now in
    puts_as _ _ _ _ _ (c.put_text.ensures ▹ c.put_state.ensures ▹ c.put_number.ensures ▹ c.put.ensures)
    (ap (λ w. line_text (row_by e w)) c.in-Bound.is ∙ bound_spelled e.rem e.starts e.least)

pub returns-in-Branch : goal.returns-in-Branch
returns-in-Branch g c =
    let e = c.args.entry.now in
    puts_as _ _ _ _ _ (c.put_text-in-Branch.ensures ▹ c.put_cited.ensures)
    (ap (λ w. line_text (row_by e w)) c.in-Branch.is ∙ branch_spelled e.rem e.starts e.least c.in-Branch.cites)

pub returns-in-Charge : goal.returns-in-Charge
returns-in-Charge g c =
    let e = c.args.entry.now in
    puts_as _ _ _ _ _ (c.put_text-in-Charge.ensures ▹ c.put_cited-in-Charge.ensures)
    (ap (λ w. line_text (row_by e w)) c.in-Charge.is ∙ charge_spelled e.rem e.starts e.least c.in-Charge.cites)
