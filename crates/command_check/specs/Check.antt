-- What `check` comes to.
use Rattle.std.specs.Prelude.{◌≡◌, ◌⊎◌, ℕ, List, Option}
use Rattle.line_instance.specs.Line.{Line}
use Rattle.line_rules.specs.declared.types.Certificate.{Certificate}
use Rattle.line_check.specs.Certificates.{IsVerdict, IsAcceptedSo, IsRejectedSo, IsTrueOf}
use Rattle.line_check.specs.declared.types.Verified.{Verified}
use Rattle.command_outcome.specs.Outcome.{Files, Outside, Outcome, told}
use Rattle.command_outcome.specs.declared.status.Status.TheVariants as ends
use Rattle.input_files.specs.Instance.{IsLineOf, IsNoLine}
use Rattle.input_files.specs.Certificate.{IsCertificateOf, IsNoCertificate}
use Rattle.printed_verdict.specs.VerdictText.{verdict_text, verdict_status}

-- The certificate that one file says is checked for the line that the other files say: the verdict is exact, what is
-- accepted is true, and the outcome tells the verdict.
pub record IsChecked (files : Files) (name proof : List ℕ) (apart : Option (List ℕ)) (steps : ℕ)
    (out : Outcome) : Type 0 where
  pub line : Line
  pub cert : Certificate
  pub found : Verified
  pub said : IsLineOf files name apart line
  pub read : IsCertificateOf files proof cert
  pub verdict : IsVerdict line cert steps found
  pub accepted : IsAcceptedSo line cert steps found
  pub rejected : IsRejectedSo line cert steps found
  pub true_bounds : IsTrueOf line cert found
  pub shown : out ≡ told (verdict_status found) (verdict_text cert found)

-- the files say a line, and that of the certificate says none
pub record IsUnproved (o : Outside) (name proof : List ℕ) (apart : Option (List ℕ)) (out : Outcome) : Type 0 where
  pub line : Line
  pub said : IsLineOf o.files name apart line
  pub unread : IsNoCertificate o proof out

-- What `check` comes to: a verdict, or why the files say no line, or no certificate. A later file is named only where
-- the earlier ones were read.
abbrev pub IsCheckOutcome : Outside → List ℕ → List ℕ → Option (List ℕ) → ℕ → Outcome → Type 0
IsCheckOutcome o name proof apart steps out = IsChecked o.files name proof apart steps out ⊎ IsNoLine o name apart out
    ⊎ IsUnproved o name proof apart out

-- The certificate of one file is accepted for the line that the other files say, and what it claims is true: there is a
-- balance at its upper bound and none below the lower one, or there is none in any number of stations.
pub record IsProvedTrue (files : Files) (name proof : List ℕ) (apart : Option (List ℕ)) (steps : ℕ) : Type 0 where
  pub line : Line
  pub cert : Certificate
  pub found : Verified
  pub said : IsLineOf files name apart line
  pub read : IsCertificateOf files proof cert
  pub yes : verdict_status found ≡ ends.Done
  pub accepted : IsAcceptedSo line cert steps found
  pub holds : IsTrueOf line cert found
