-- The certificates of all versions.
use Rattle.std.specs.Prelude.{◌≡◌, ℕ, List}
use Rattle.line_rules.specs.Ranges.{IsInRange}
use Rattle.line_rules.specs.declared.types.Certificate.{Certificate}
use Rattle.cert_lines.specs.Rows.{Row, rows_text}
use Rattle.cert_lines.specs.Faults.{Grammar}
use Rattle.entry_lists.specs.Lift.{lift}
use Rattle.entry_lists.specs.OldRanges.{IsOldInRange}
use Rattle.entry_lists.specs.declared.version_one.OldCertificate.{OldCertificate}
use Rattle.cert_lines.specs.declared.line_forms.Version.TheVariants as version
use Rattle.cert_text.specs.Cert.{least_version, rows_in}
use Rattle.cert_text.specs.OldCert.{old_rows}
use Rattle.cert_text.specs.declared.parts.Head.{Head}
use Rattle.cert_text.specs.declared.parts.AnyClaim.{AnyClaim}
use Rattle.cert_text.specs.declared.parts.AnyClaim.TheVariants as any

-- a certificate of version 2, one of version 3, or one of version 1
pub data AnyCertificate : Type 0 where
  newer : Certificate → AnyCertificate
  newest : Certificate → AnyCertificate
  older : OldCertificate → AnyCertificate

-- its lines
abbrev pub any_rows : AnyCertificate → List Row
any_rows (newer cert) = rows_in version.Two cert
any_rows (newest cert) = rows_in version.Three cert
any_rows (older old) = old_rows old

-- its text
abbrev pub any_text : AnyCertificate → List ℕ
any_text x = rows_text (any_rows x)

-- it is within the ranges of its version: in version 2 no entry is by pairs
abbrev pub IsAnyInRange : AnyCertificate → Type 0
IsAnyInRange (newer cert) = IsInRange cert × (least_version cert.claim ≡ version.Two)
IsAnyInRange (newest cert) = IsInRange cert
IsAnyInRange (older old) = IsOldInRange old

-- the certificate that it is, or that its lift is
abbrev pub lifted : AnyCertificate → Certificate
lifted (newer cert) = cert
lifted (newest cert) = cert
lifted (older old) = lift old

-- the texts of all versions
abbrev pub both : Grammar AnyCertificate
both = record { rows = any_rows; ranged = IsAnyInRange }

-- the certificate of a head and a claim, or its lift
abbrev pub certificate_of : Head → AnyClaim → Certificate
certificate_of h (any.New c) = record { kind = h.kind; tasks = h.tasks; ask = h.ask; claim = c }
certificate_of h (any.Old c) = lift (record { kind = h.kind; tasks = h.tasks; ask = h.ask; claim = c })
