-- Which certificates show a balance of a line, and why others don't.
use Rattle.std.specs.Prelude.{◌≡◌, ◌≢◌, ◌⊎◌, ℕ, List, Option, codes}
use Rattle.line_instance.specs.Line.{Line, tasks}
use Rattle.line_rules.specs.declared.types.Ask.{Ask}
use Rattle.line_rules.specs.declared.types.LineKind.{LineKind}
use Rattle.line_rules.specs.declared.types.Claim.{Claim}
use Rattle.line_rules.specs.declared.types.Claim.TheVariants.{TooLong, Bounds}
use Rattle.line_rules.specs.declared.types.Certificate.{Certificate}
use Rattle.line_check.specs.Certificates.{BalanceFails, NeedsEntries}
use Rattle.line_check.specs.declared.types.Place.{Place}
use Rattle.line_check.specs.declared.types.Place.TheVariants.{Tasks}
use Rattle.line_check.specs.declared.types.Verified.TheVariants.{Refused}
use Rattle.command_outcome.specs.Outcome.{Files, Outside, Outcome, told}
use Rattle.command_outcome.specs.declared.status.Status.TheVariants as ends
use Rattle.input_files.specs.Instance.{IsLineOf, IsNoLine}
use Rattle.input_files.specs.Certificate.{IsCertificateOf, IsNoCertificate}
use Rattle.printed_verdict.specs.VerdictText.{verdict_text}

-- The certificate is of as many tasks as the line has, and claims a balance that shows its upper bound: it is in as
-- many stations as that says, and right at its cycle time. The check of a certificate tests the same before its
-- entries.
abbrev pub IsDrawable : Line → Certificate → Type 0
IsDrawable line cert = NeedsEntries line cert

-- no balance is claimed
abbrev pub IsBare : Claim → Type 0
IsBare (TooLong task) = Unit {0}
IsBare (Bounds lower upper balance es trail) = ⊥

-- the balance that is claimed doesn't show its upper bound, first at this place
abbrev pub ClaimFails : LineKind → Line → Ask → Claim → Place → Type 0
ClaimFails kind line a (TooLong task) place = ⊥
ClaimFails kind line a (Bounds lower upper balance es trail) place = BalanceFails kind line a upper balance place

-- the line of a certificate without a balance
abbrev pub bare_line : List ℕ
bare_line = codes "refused: no balance\n"

-- Why there is nothing to show, in the order of the tests. The certificate is of another number of tasks;
pub record IsOfOthers (line : Line) (cert : Certificate) (out : Outcome) : Type 0 where
  pub other : cert.tasks ≢ tasks line
  pub shown : out ≡ told ends.Refused (verdict_text cert (Refused (Tasks cert.tasks (tasks line))))

-- or it claims no balance;
pub record HasNoBalance (line : Line) (cert : Certificate) (out : Outcome) : Type 0 where
  pub many : cert.tasks ≡ tasks line
  pub bare : IsBare cert.claim
  pub shown : out ≡ told ends.Refused bare_line

-- or the balance is wrong, and the outcome tells the first thing that is.
pub record HasWrongBalance (line : Line) (cert : Certificate) (out : Outcome) : Type 0 where
  pub many : cert.tasks ≡ tasks line
  pub place : Place
  pub fails : ClaimFails cert.kind line cert.ask cert.claim place
  pub shown : out ≡ told ends.Refused (verdict_text cert (Refused place))

abbrev pub IsUndrawable : Line → Certificate → Outcome → Type 0
IsUndrawable line cert out = IsOfOthers line cert out ⊎ HasNoBalance line cert out ⊎ HasWrongBalance line cert out

-- the files say a line, and that of the certificate says none
pub record IsUnread (o : Outside) (name proof : List ℕ) (apart : Option (List ℕ)) (out : Outcome) : Type 0 where
  pub line : Line
  pub said : IsLineOf o.files name apart line
  pub unread : IsNoCertificate o proof out

-- the files say a line and a certificate that can't be drawn for it
pub record IsRefused (files : Files) (name proof : List ℕ) (apart : Option (List ℕ)) (out : Outcome) : Type 0 where
  pub line : Line
  pub cert : Certificate
  pub said : IsLineOf files name apart line
  pub read : IsCertificateOf files proof cert
  pub refused : IsUndrawable line cert out

-- the files say a line and a certificate whose balance can be shown
pub record HasShown (files : Files) (name proof : List ℕ) (apart : Option (List ℕ)) (line : Line)
    (cert : Certificate) : Type 0 where
  pub said : IsLineOf files name apart line
  pub read : IsCertificateOf files proof cert
  pub drawable : IsDrawable line cert

-- the files say no line, no certificate, or none whose balance can be shown; a later file is named only where the
-- earlier ones were read
abbrev pub IsNotShown : Outside → List ℕ → List ℕ → Option (List ℕ) → Outcome → Type 0
IsNotShown o name proof apart out =
    IsNoLine o name apart out ⊎ IsUnread o name proof apart out ⊎ IsRefused o.files name proof apart out
