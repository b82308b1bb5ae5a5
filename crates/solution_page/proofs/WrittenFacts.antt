-- The certificate that is kept is the one that is written.
use Rattle.std.proofs.Common.{◌≡◌, ◌∙◌, ℕ, List, Some, sym, ap, subst}
use Rattle.line_rules.specs.declared.types.Certificate.{Certificate}
use Rattle.cert_text.specs.Cert.{cert_text}
use Rattle.command_outcome.specs.Found.{page_of}
use Rattle.command_outcome.specs.Outcome.{outcome_of}
use Rattle.command_outcome.specs.declared.report.Kept.TheVariants.{Line as Certified}
use Rattle.command_outcome.specs.declared.report.Report.{Report}

one : (a b : Certificate) → Certified a ≡ Certified b → a ≡ b
one a b e = cc

-- the page of a certificate is that of the one that is kept
pub same_page : (name : List ℕ) (r : Report) (a b : Certificate) → r.kept ≡ Certified a → r.kept ≡ Certified b
    → outcome_of r (page_of (Some name) (cert_text a)) ≡ outcome_of r (page_of (Some name) (cert_text b))
same_page name r a b is kept =
    ap (λ (x : Certificate). outcome_of r (page_of (Some name) (cert_text x))) (one a b (sym is ∙ kept))
