-- The picture of a certificate with a right balance is true.
use Rattle.std.proofs.Common.{ℕ}
use Rattle.line_instance.specs.Line.{Line, IsLine, IsRanked}
use Rattle.line_rules.specs.Accepted.{upper_cycle}
use Rattle.line_rules.specs.Ranges.{IsAsked, IsClaim, IsCycle, IsInRange}
use Rattle.line_rules.specs.declared.types.LineKind.{LineKind}
use Rattle.line_rules.specs.declared.types.Ask.{Ask}
use Rattle.line_rules.specs.declared.types.Ask.TheVariants.{Stations, Cycle}
use Rattle.line_rules.specs.declared.types.Claim.{Claim}
use Rattle.line_rules.specs.declared.types.Claim.TheVariants.{TooLong, Bounds}
use Rattle.line_rules.specs.declared.types.Certificate.{Certificate}
use Rattle.line_drawing.specs.Facts.{ClaimIsRight, ClaimIsTrue, HasRightBalance, IsTrueDrawing}
use Rattle.line_drawing.proofs.NumberFacts.{true_numbers}
use Rattle.line_drawing.proofs.StationFacts.{true_at}

-- the cycle time that a balance shows is one
pub shown_cycle : (a : Ask) (upper : ℕ) → IsAsked a → IsCycle upper → IsCycle (upper_cycle a upper)
shown_cycle (Stations cycle) upper asked up_to = asked
shown_cycle (Cycle stations) upper asked up_to = up_to

claim_true : (line : Line) (kind : LineKind) (a : Ask) (claim : Claim) (n : ℕ) → IsLine line → IsRanked line → IsAsked a
    → IsClaim kind n a claim → ClaimIsRight kind line a claim → ClaimIsTrue line kind a claim
claim_true line kind a (TooLong task) n ok ranked asked range right = tt
claim_true line kind a (Bounds lower upper b es trail) n ok ranked asked range right = record {
  stations = λ k. true_at kind line (upper_cycle a upper) b ok ranked (shown_cycle a upper asked range.up_to).some right
      k;
  numbers = true_numbers line kind (upper_cycle a upper) b right;
}

pub drawing_true : (line : Line) (cert : Certificate) → IsLine line → IsRanked line → IsInRange cert
    → HasRightBalance line cert → IsTrueDrawing line cert
drawing_true line cert ok ranked range right = claim_true line cert.kind cert.ask cert.claim cert.tasks ok ranked
    range.ask range.claim right
