use Rattle.std.proofs.Common.{◌∙◌, sym}
use Rattle.sequence_cert.proofs.StateLines.{charges_none, charges_judged}
use Rattle.sequence_cert.proofs.charges.ChargesLinePattern.read.Goals as goal

pub returns-in-Ok-None : goal.returns-in-Ok-None
returns-in-Ok-None c =
    charges_none c.args.self.now.models c.args.line.now (sym c.in-Ok-None.ensures ∙ c.in-Ok-None.field-0-is)

pub returns-in-Ok-Some : goal.returns-in-Ok-Some
returns-in-Ok-Some c =
    charges_judged c.args.self.now.models c.args.line.now c.in-Ok-Some.charges c.charges_within.result
    (sym c.in-Ok-Some.ensures ∙ c.in-Ok-Some.field-0-is) c.charges_within.ensures
