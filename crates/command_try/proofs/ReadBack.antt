-- The text of a certificate is read as that certificate, and the check accepts one that is accepted.
use Rattle.std.proofs.Common.{◌≡◌, ◌⊎◌, ℕ, [], refl, sym, ap, ◌∙◌, inl, inr}
use Rattle.std.proofs.lemmas.List.{append-nil}
use Rattle.line_instance.specs.Line.{Line}
use Rattle.line_rules.specs.Accepted.{IsAccepted, IsInfeasible, ClaimIsAccepted, ClaimIsInfeasible}
use Rattle.line_rules.specs.Ranges.{IsInRange}
use Rattle.line_rules.specs.declared.types.Claim.{Claim}
use Rattle.line_rules.specs.declared.types.Claim.TheVariants as claim
use Rattle.line_rules.specs.declared.types.Certificate.{Certificate}
use Rattle.cert_lines.specs.Rows.{rows_text}
use Rattle.cert_lines.specs.declared.line_forms.Version.{Version}
use Rattle.cert_lines.specs.declared.line_forms.Version.TheVariants as version
use Rattle.cert_text.specs.Cert.{cert_text, cert_rows, newest_text, least_version, rows_in}
use Rattle.cert_text.specs.WholeText.{IsSaidBy}
use Rattle.cert_text.specs.Versions.{AnyCertificate, newer, newest, older, IsAnyInRange, any_text, lifted}
use Rattle.cert_text.proofs.LineTexts.{begins_none}
use Rattle.cert_text.proofs.PairFacts.{least_not_one}

-- what a certificate's text says, in the version in which it is written
written_as : (cert : Certificate) → IsInRange cert
    → (x : AnyCertificate) × IsAnyInRange x × (any_text x ≡ cert_text cert) × (lifted x ≡ cert)
unfolding cert_rows
written_as cert h = in_version (least_version cert.claim) refl
  where
    in_version : (v : Version) → least_version cert.claim ≡ v
        → (x : AnyCertificate) × IsAnyInRange x × (any_text x ≡ cert_text cert) × (lifted x ≡ cert)
    in_version version.One e = absurd (least_not_one cert.claim e)
    in_version version.Two e = (newer cert, (h, e), ap (λ v. rows_text (rows_in v cert)) (sym e), refl)
    in_version version.Three e = (newest cert, h, ap (λ v. rows_text (rows_in v cert)) (sym e), refl)

-- what equal texts say is the same
one_text : (x y : AnyCertificate) → IsAnyInRange x → IsAnyInRange y → any_text x ≡ any_text y → lifted x ≡ lifted y
one_text x y h k e = ap lifted (begins_none x y [] h k (append-nil (any_text x) ∙ e)).0

pub read_same : (cert again : Certificate) → IsInRange cert → IsSaidBy (cert_text cert) again → again ≡ cert
read_same cert again h (inl s) = let x = written_as cert h in by_text x s.1
  where
    by_text : (x : AnyCertificate) × IsAnyInRange x × (any_text x ≡ cert_text cert) × (lifted x ≡ cert)
        → (cert_text cert ≡ cert_text again) ⊎ (cert_text cert ≡ newest_text again) → again ≡ cert
    by_text x (inl e) =
        let y = written_as again s.0 in
        sym y.3 ∙ sym (one_text x.0 y.0 x.1 y.1 (x.2 ∙ e ∙ sym y.2)) ∙ x.3
    by_text x (inr e) = sym (one_text x.0 (newest again) x.1 s.0 (x.2 ∙ e)) ∙ x.3
read_same cert again h (inr o) =
    let x = written_as cert h in
    o.3 ∙ sym (one_text x.0 (older o.0) x.1 o.1 (x.2 ∙ o.2)) ∙ x.3

-- a certificate isn't accepted both with bounds and as infeasible
claims_differ : (line : Line) (cert : Certificate) (said : Claim) (l u units i : ℕ)
    → ClaimIsAccepted cert.kind line cert.ask said l u units → ClaimIsInfeasible line cert.ask said i → ⊥
claims_differ line cert (claim.TooLong task) l u units i a b = a
claims_differ line cert (claim.Bounds lower upper balance es trail) l u units i a b = b

pub not_both : (line : Line) (cert : Certificate) (l u units i : ℕ) → IsAccepted line cert l u units
    → IsInfeasible line cert i → ⊥
not_both line cert l u units i a b = claims_differ line cert cert.claim l u units i a.claim b.claim

-- the bounds with which a certificate is accepted are its own
claim_once : (line : Line) (cert : Certificate) (said : Claim) (l u units m v more : ℕ)
    → ClaimIsAccepted cert.kind line cert.ask said l u units → ClaimIsAccepted cert.kind line cert.ask said m v more
    → (l ≡ m) × (u ≡ v)
claim_once line cert (claim.TooLong task) l u units m v more a b = absurd a
claim_once line cert (claim.Bounds lower upper balance es trail) l u units m v more a b = (a.0 ∙ sym b.0, a.1 ∙ sym b.1)

pub bounds_once : (line : Line) (cert : Certificate) (l u units m v more : ℕ) → IsAccepted line cert l u units
    → IsAccepted line cert m v more → (l ≡ m) × (u ≡ v)
bounds_once line cert l u units m v more a b = claim_once line cert cert.claim l u units m v more a.claim b.claim
