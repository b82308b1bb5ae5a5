-- How long the text of a certificate is.
use Rattle.std.specs.Prelude.{◌≡◌, ℕ, ◌+◌, ◌*◌, ◌≤◌, List, length, Option}
use Rattle.line_rules.specs.lines.Line.{Line}
use Rattle.line_rules.specs.Accepted.{IsAccepted, IsInfeasible}
use Rattle.line_rules.specs.Ranges.{IsInRange}
use Rattle.line_rules.specs.declared.types.Balance.{Balance as Assignment}
use Rattle.line_rules.specs.declared.types.Entry.{Entry}
use Rattle.line_rules.specs.declared.types.Trail.{Trail}
use Rattle.line_rules.specs.declared.types.Claim.TheVariants as claim
use Rattle.line_rules.specs.declared.types.Certificate.{Certificate}
use Rattle.cert_text.specs.Cert.{cert_text}

-- the most bytes of the text of a certificate with so many entries and units: 545 an entry, 9 a unit, and 1,000,000 for
-- all other lines
abbrev pub most_bytes : ℕ → ℕ → ℕ
most_bytes entries units = 545 * entries + 9 * units + 1000000

-- Certificates have short texts. One of bounds that is within its ranges and accepted has no more bytes than its
-- entries and its units allow. One that says that a task is too long has no more than those of no entry and no unit.
pub record CertificatesFit : Type 0 where
  pub bounds : (line : Line) (cert : Certificate) (lower upper units : ℕ) (b : Assignment) (es : List Entry)
      (trail : Option Trail) → cert.claim ≡ claim.Bounds lower upper b es trail → IsInRange cert
      → IsAccepted line cert lower upper units → length (cert_text cert) ≤ most_bytes (length es) units
  pub too_long : (line : Line) (cert : Certificate) (task : ℕ) → IsInRange cert → IsInfeasible line cert task
      → length (cert_text cert) ≤ most_bytes 0 0
