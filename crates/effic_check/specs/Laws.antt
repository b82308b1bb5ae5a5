-- A law of the check of certificates of a product.
use Rattle.std.specs.Prelude.{◌≡◌, ℕ}
use Rattle.line_instance.specs.Line.{Line, IsLine, IsRanked}
use Rattle.line_rules.specs.declared.products.EfficCert.{EfficCert}
use Rattle.effic_check.specs.Verdict.{IsVerdict}
use Rattle.effic_check.specs.declared.verdict.EfficVerified.{EfficVerified}

-- what is found of a certificate with so many steps is one answer
pub record VerdictIsOne : Type 0 where
  pub certificate : (line : Line) → IsLine line → IsRanked line → (cert : EfficCert) (steps : ℕ) (v w : EfficVerified)
      → IsVerdict line cert steps v → IsVerdict line cert steps w → v ≡ w
