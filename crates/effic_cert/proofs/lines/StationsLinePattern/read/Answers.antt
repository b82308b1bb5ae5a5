use Rattle.std.proofs.Common.{sym, arith}
use Rattle.effic_cert.proofs.LineFacts.{ends_none, ends_ok, ends_range}
use Rattle.effic_cert.specs.inner.Parts.{AreEnds}
use Rattle.effic_cert.proofs.lines.StationsLinePattern.read.Goals as goal

pub returns-in_default : goal.returns-in_default
returns-in_default c = ends_none c.args.line.now (sym c.in_default.ensures)

pub returns-then-least-lt1 : goal.returns-then-least-lt1
returns-then-least-lt1 c = ends_range c.args.line.now (c.in-Some.least, c.in-Some.most) (sym c.in-Some.ensures)
    (λ h. absurd (omega (arith, h.0.some, c.if-least-lt1.true)))

pub returns-then-least-gt1024 : goal.returns-then-least-gt1024
returns-then-least-gt1024 c = ends_range c.args.line.now (c.in-Some.least, c.in-Some.most) (sym c.in-Some.ensures)
    (λ h. absurd (omega (arith, h.0.few, c.if-least-gt1024.true)))

pub returns-then-most-lt1 : goal.returns-then-most-lt1
returns-then-most-lt1 c = ends_range c.args.line.now (c.in-Some.least, c.in-Some.most) (sym c.in-Some.ensures)
    (λ h. absurd (omega (arith, h.1.some, c.if-most-lt1.true)))

pub returns-then-most-gt1024 : goal.returns-then-most-gt1024
returns-then-most-gt1024 c = ends_range c.args.line.now (c.in-Some.least, c.in-Some.most) (sym c.in-Some.ensures)
    (λ h. absurd (omega (arith, h.1.few, c.if-most-gt1024.true)))

pub returns : goal.returns
returns c =
    let r : AreEnds (c.in-Some.least, c.in-Some.most) = (
      record { some = c.if-least-lt1.false; few = c.if-least-gt1024.false },
      record { some = c.if-most-lt1.false; few = c.if-most-gt1024.false },
    ) in
    (r, ends_ok c.args.line.now c.in-Some.least c.in-Some.most (sym c.in-Some.ensures) r)
