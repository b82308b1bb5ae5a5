use Rattle.std.proofs.Common.{sym, arith}
use Rattle.sequence_cert.proofs.StateLines.{unit_none, unit_ok, unit_range}
use Rattle.sequence_cert.proofs.lines.UnitLinePattern.read.Goals as goal

pub returns-in_default : goal.returns-in_default
returns-in_default c = unit_none c.args.self.now.models c.args.line.now (sym c.in_default.ensures)

pub returns-then-model-lt1 : goal.returns-then-model-lt1
returns-then-model-lt1 c =
    unit_range c.args.self.now.models c.args.line.now c.in-Some.model c.requires (sym c.in-Some.ensures)
    (λ h. absurd (omega (arith, h.0, c.if-model-lt1.true)))

pub returns-then-model-from : goal.returns-then-model-from
returns-then-model-from c =
    unit_range c.args.self.now.models c.args.line.now c.in-Some.model c.requires (sym c.in-Some.ensures)
    (λ h. absurd (omega (arith, h.1, c.if-model-from.true, c.from.ensures)))

pub returns : goal.returns
returns c =
    unit_ok c.args.self.now.models c.args.line.now c.in-Some.model c.requires (sym c.in-Some.ensures)
    c.if-model-lt1.false (omega (arith, c.if-model-from.false, c.from.ensures))
