-- What is read of the first line decides the version.
use Rattle.std.proofs.Common.{◌≡◌, false, List, ℕ, refl}
use Rattle.std.specs.Prelude.{bytes_eq}
use Rattle.cert_lines.specs.Rows.{row_text}
use Rattle.cert_lines.specs.Pattern.{HasFormOf}
use Rattle.cert_lines.proofs.JudgedLine.{fixed_not}
use Rattle.cert_text.proofs.Claims.{other_text}
use Rattle.effic_cert.specs.Product.{version_line}
use Rattle.effic_cert.specs.inner.Parts.{version_row}
use Rattle.effic_cert.specs.declared.version.Version.{Version}
use Rattle.effic_cert.specs.declared.version.Version.TheVariants as version

pub version_not : (line u w : List ℕ) → false ≡ bytes_eq line u → u ≡ version_line version.One
    → false ≡ bytes_eq line w → w ≡ version_line version.Two → HasFormOf version_row (λ v. Unit {0}) line → ⊥
version_not line u w e s f t (version.One, h, r, a, b) = fixed_not line (version_line version.One) u r e s a b
version_not line u w e s f t (version.Two, h, r, a, b) = fixed_not line (version_line version.Two) w r f t a b

pub version_one : (v w : Version) → row_text (version_row v) ≡ row_text (version_row w) → v ≡ w
version_one version.One version.One e = refl
version_one version.Two version.Two e = refl
version_one version.One version.Two e =
    absurd (other_text (version_line version.One) (version_line version.Two) refl e)
version_one version.Two version.One e =
    absurd (other_text (version_line version.Two) (version_line version.One) refl e)
