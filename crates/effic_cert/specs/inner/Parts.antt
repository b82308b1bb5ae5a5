-- The parts of the text of a certificate of a product, as grammars.
use Rattle.std.specs.Prelude.{ℕ, Bool, List, codes}
use Rattle.cert_lines.specs.Faults.{Grammar}
use Rattle.cert_lines.specs.Rows.{Row, fixed, span}
use Rattle.cert_text.specs.Parts.{MayHave}
use Rattle.line_rules.specs.Products.{IsStations, IsSayable}
use Rattle.effic_cert.specs.Product.{body_rows, version_line}
use Rattle.effic_cert.specs.declared.version.Version.{Version}
use Rattle.line_rules.specs.declared.products.EfficCert.{EfficCert}
use Rattle.effic_cert.specs.declared.lines.Bound.{Bound}
use Rattle.effic_cert.specs.declared.lines.Bound.TheVariants as bound

-- the word of a bound
abbrev pub bound_text : Bound → List ℕ
bound_text bound.Lower = codes "lower"
bound_text bound.Upper = codes "upper"

-- both ends of the range of stations
abbrev pub AreEnds : ℕ × ℕ → Type 0
AreEnds v = IsStations v.0 × IsStations v.1

-- the line of the ends of the range of stations
abbrev pub ends_row : ℕ × ℕ → Row
ends_row v = span (codes "stations") v.0 v.1

-- the first line of a version
abbrev pub version_row : Version → Row
version_row v = fixed (version_line v)

-- what stands behind the first line, of a text with entries by pairs or without
abbrev pub bodies : Bool → Grammar EfficCert
bodies pairs = record { rows = body_rows; ranged = λ cert. IsSayable cert × MayHave pairs cert.entries }
