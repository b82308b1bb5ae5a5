-- The certificate that is kept is the one that is written.
use Rattle.std.proofs.Common.{◌≡◌, ℕ, List, Option, Some, ap}
use Rattle.std.proofs.Math.Path.{subst⁻¹}
use Rattle.sequence_values.specs.declared.types.SeqCert.{SeqCert}
use Rattle.sequence_cert.specs.SequenceText.{sequence_text}
use Rattle.command_outcome.specs.Found.{page_of}
use Rattle.command_outcome.specs.Outcome.{Outcome, outcome_of}
use Rattle.command_outcome.specs.declared.report.Kept.TheVariants.{Sequence}
use Rattle.command_outcome.specs.declared.report.Report.{Report}

-- the certificate that is kept, in the file that the words name, is the page of any certificate that is kept
pub same_page : (given : Option (List ℕ)) (name : List ℕ) (r : Report) (a b : SeqCert) → given ≡ Some name
    → r.kept ≡ Sequence a → r.kept ≡ Sequence b
    → outcome_of r (Some (record { name = name; bytes = sequence_text a }))
    ≡ outcome_of r (page_of given (sequence_text b))
same_page given name r a b is one other =
    let same : a ≡ b = cc in
    let with_page : SeqCert → Outcome = λ x. outcome_of r (page_of (Some name) (sequence_text x)) in
    subst⁻¹ (λ (n : Option (List ℕ)). with_page a ≡ outcome_of r (page_of n (sequence_text b))) is (ap with_page same)
