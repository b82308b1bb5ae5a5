-- A certificate that can be drawn has a right balance; what files say of a line, whatever the cycle time.
use Rattle.std.proofs.Common.{ℕ, List, Option}
use Rattle.line_instance.specs.Line.{Line}
use Rattle.line_rules.specs.declared.types.LineKind.{LineKind}
use Rattle.line_rules.specs.declared.types.Ask.{Ask}
use Rattle.line_rules.specs.declared.types.Claim.{Claim}
use Rattle.line_rules.specs.declared.types.Claim.TheVariants.{TooLong, Bounds}
use Rattle.line_rules.specs.declared.types.Certificate.{Certificate}
use Rattle.line_check.specs.Certificates.{ClaimNeeds}
use Rattle.line_drawing.specs.Facts.{ClaimIsRight, HasRightBalance}
use Rattle.command_outcome.specs.Outcome.{Files}
use Rattle.input_files.specs.Instance.{IsLineGiven, IsLineOf}
use Rattle.command_draw.specs.Drawable.{IsDrawable}

claim_right : (kind : LineKind) (line : Line) (a : Ask) (claim : Claim) → ClaimNeeds kind line a claim
    → ClaimIsRight kind line a claim
claim_right kind line a (TooLong task) h = h
claim_right kind line a (Bounds lower upper b es trail) h = h.1

pub right_of : (line : Line) (cert : Certificate) → IsDrawable line cert → HasRightBalance line cert
right_of line cert h = claim_right cert.kind line cert.ask cert.claim h.1

pub line_given : (files : Files) (name : List ℕ) (apart : Option (List ℕ)) (line : Line) (given : Option ℕ)
    → IsLineGiven files name apart line given → IsLineOf files name apart line
line_given files name apart line given l =
    record { whole = l.whole; given = given; instance = l.instance; parted = l.parted }
