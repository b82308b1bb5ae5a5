-- What `effic-check` comes to.
use Rattle.std.specs.Prelude.{◌≡◌, ◌⊎◌, ℕ, List}
use Rattle.line_instance.specs.Line.{Line}
use Rattle.command_outcome.specs.Outcome.{Files, Outside, Outcome, told}
use Rattle.command_outcome.specs.declared.status.Status.TheVariants as ends
use Rattle.input_files.specs.Instance.{IsPlainLine, IsNoPlainLine}
use Rattle.line_rules.specs.declared.products.EfficCert.{EfficCert}
use Rattle.effic_check.specs.Verdict.{IsVerdict, IsAcceptedSo, IsRejectedSo, IsTrueOf}
use Rattle.effic_check.specs.declared.verdict.EfficVerified.{EfficVerified}
use Rattle.command_effic.specs.ProductFile.{IsProductOf, IsNoProduct}
use Rattle.command_effic.specs.ProductText.{verdict_text, verdict_status}

-- The certificate that one file says is checked for the line that the other file says: the verdict is exact, what is
-- accepted is true, and the outcome tells the verdict.
pub record IsChecked (files : Files) (name proof : List ℕ) (steps : ℕ) (out : Outcome) : Type 0 where
  pub line : Line
  pub cert : EfficCert
  pub found : EfficVerified
  pub said : IsPlainLine files name line
  pub read : IsProductOf files proof cert
  pub verdict : IsVerdict line cert steps found
  pub accepted : IsAcceptedSo line cert steps found
  pub rejected : IsRejectedSo line cert steps found
  pub true_bounds : IsTrueOf line cert found
  pub shown : out ≡ told (verdict_status found) (verdict_text cert found)

-- the first file says a line, and that of the certificate says none
pub record IsUnproved (o : Outside) (name proof : List ℕ) (out : Outcome) : Type 0 where
  pub line : Line
  pub said : IsPlainLine o.files name line
  pub unread : IsNoProduct o proof out

-- What `effic-check` comes to: a verdict, or why the files say no line, or no certificate. The second file is named
-- only where the first one was read.
abbrev pub IsEfficCheckOutcome : Outside → List ℕ → List ℕ → ℕ → Outcome → Type 0
IsEfficCheckOutcome o name proof steps out =
    IsChecked o.files name proof steps out ⊎ IsNoPlainLine o name out ⊎ IsUnproved o name proof out

-- The promise of `effic-check` with status 0: the certificate of one file is accepted for the line that the other file
-- says, and what it claims is true: a balance in the stations that are asked for reaches its upper bound, and none lies
-- below the lower one.
pub record IsProvedProduct (files : Files) (name proof : List ℕ) (steps : ℕ) : Type 0 where
  pub line : Line
  pub cert : EfficCert
  pub found : EfficVerified
  pub said : IsPlainLine files name line
  pub read : IsProductOf files proof cert
  pub yes : verdict_status found ≡ ends.Done
  pub accepted : IsAcceptedSo line cert steps found
  pub holds : IsTrueOf line cert found
