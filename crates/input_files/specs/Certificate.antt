-- What a file says of a certificate, and why it says none.
use Rattle.std.specs.Prelude.{◌≡◌, ◌⊎◌, ℕ, List, ◌++◌, codes, decimal}
use Rattle.line_rules.specs.declared.types.Certificate.{Certificate}
use Rattle.cert_text.specs.WholeText.{IsCertFault, IsSaidBy}
use Rattle.cert_lines.specs.declared.fault.CertFault.{CertFault}
use Rattle.cert_lines.specs.declared.fault.CertKind.{CertKind}
use Rattle.cert_lines.specs.declared.fault.CertKind.TheVariants.{Ended, Form, Range, Trailing}
use Rattle.command_outcome.specs.Outcome.{Files, Outside, Outcome, told}
use Rattle.command_outcome.specs.declared.status.Status.TheVariants as ends
use Rattle.input_files.specs.InputFile.{Reads, IsUntaken, max_certificate}

-- what is wrong with a line of a certificate
abbrev pub cert_kind_text : CertKind → List ℕ
cert_kind_text Ended = codes "ended"
cert_kind_text Form = codes "form"
cert_kind_text Range = codes "range"
cert_kind_text Trailing = codes "trailing"

-- the line about the fault of a certificate's text
abbrev pub cert_fault_line : CertFault → List ℕ
cert_fault_line fault = codes "certificate: line " ++ decimal fault.line ++ codes " " ++ cert_kind_text fault.kind
    ++ codes "\n"

-- the bytes say the certificate: they are its text, or that of a certificate of version 1 whose lift it is
abbrev pub IsTextOf : Certificate → List ℕ → Type 0
IsTextOf cert bytes = IsSaidBy bytes cert

-- the bytes are no certificate's text, and the outcome names the first fault
pub record IsFaultyCertificate (bytes : List ℕ) (out : Outcome) : Type 0 where
  pub fault : CertFault
  pub first : IsCertFault bytes fault
  pub unread : (cert : Certificate) → IsTextOf cert bytes → ⊥
  pub shown : out ≡ told ends.Refused (cert_fault_line fault)

-- the file says the certificate
abbrev pub IsCertificateOf : Files → List ℕ → Certificate → Type 0
IsCertificateOf files name cert = Reads max_certificate (files name) (IsTextOf cert)

-- the file says no certificate: it isn't taken in, or is no certificate's text
abbrev pub IsNoCertificate : Outside → List ℕ → Outcome → Type 0
IsNoCertificate o name out = IsUntaken o max_certificate name out
    ⊎ Reads max_certificate (o.files name) (λ bytes. IsFaultyCertificate bytes out)
