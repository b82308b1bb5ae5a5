-- The versions of the text, and the charges of each (own).
use Rattle.std.specs.Prelude.{◌≡◌, ℕ, List, [], Option, Some, None}
use Rattle.cert_lines.specs.Rows.{Row, fixed}
use Rattle.sequence_rules.specs.Ranges.{AreChargesIf, IsInRange}
use Rattle.sequence_values.specs.declared.types.SeqCert.{SeqCert}
use Rattle.sequence_cert.specs.SequenceText.{first_line}
use Rattle.sequence_cert.specs.declared.version.Version.{Version}
use Rattle.sequence_cert.specs.declared.version.Version.TheVariants as version

-- the version of a text with or without charges
abbrev pub version_of : Option (List ℕ) → Version
version_of None = version.One
version_of (Some charges) = version.Two

-- whether a text of this version has charges, as charges of no model
abbrev pub mark_of : Version → Option (List ℕ)
mark_of version.One = None
mark_of version.Two = Some []

-- the first line of a version
abbrev pub version_line : Version → List ℕ
version_line v = first_line (mark_of v)

abbrev pub version_row : Version → Row
version_row v = fixed (version_line v)

-- charges of so many models, as a text of this version has them
pub record AreChargesIn (v : Version) (models : ℕ) (charges : Option (List ℕ)) : Type 0 where
  pub same : version_of charges ≡ v
  pub within : AreChargesIf models charges

-- a certificate within its ranges whose text is of this version
pub record IsOfVersion (v : Version) (cert : SeqCert) : Type 0 where
  pub in_range : IsInRange cert
  pub same : version_of cert.charges ≡ v
