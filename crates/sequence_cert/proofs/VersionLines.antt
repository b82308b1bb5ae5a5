-- What is read of the first line decides the version.
use Rattle.std.proofs.Common.{◌≡◌, false, List, ℕ, refl, sym, ◌∙◌}
use Rattle.std.specs.Prelude.{bytes_eq}
use Rattle.std.proofs.lemmas.Bool.{false≢true}
use Rattle.std.proofs.lemmas.Slice.Eq.{bytes_eq-Decides}
use Rattle.cert_lines.specs.Rows.{row_text}
use Rattle.cert_lines.specs.Pattern.{HasFormOf}
use Rattle.cert_lines.proofs.JudgedLine.{fixed_text, fixed_not}
use Rattle.sequence_cert.specs.inner.Versions.{version_line, version_row}
use Rattle.sequence_cert.specs.declared.version.Version.{Version}
use Rattle.sequence_cert.specs.declared.version.Version.TheVariants as version

pub version_not : (line u w : List ℕ) → false ≡ bytes_eq line u → u ≡ version_line version.Two
    → false ≡ bytes_eq line w → w ≡ version_line version.One → HasFormOf version_row (λ v. Unit {0}) line → ⊥
version_not line u w e s f t (version.Two, h, r, a, b) = fixed_not line (version_line version.Two) u r e s a b
version_not line u w e s f t (version.One, h, r, a, b) = fixed_not line (version_line version.One) w r f t a b

-- the first lines of both versions differ
apart : version_line version.One ≡ version_line version.Two → ⊥
apart e = false≢true ((bytes_eq-Decides (version_line version.One) (version_line version.Two)).1 e)

pub version_one : (v w : Version) → row_text (version_row v) ≡ row_text (version_row w) → v ≡ w
version_one version.One version.One e = refl
version_one version.Two version.Two e = refl
version_one version.One version.Two e =
    absurd (apart (sym (fixed_text (version_line version.One)) ∙ e ∙ fixed_text (version_line version.Two)))
version_one version.Two version.One e =
    absurd (apart (sym (fixed_text (version_line version.One)) ∙ sym e ∙ fixed_text (version_line version.Two)))
