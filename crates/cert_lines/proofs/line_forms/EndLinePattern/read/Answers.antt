use Rattle.std.specs.Prelude.{codes}
use Rattle.cert_lines.proofs.JudgedLine.{fixed_is, end_not}
use Rattle.cert_lines.proofs.line_forms.EndLinePattern.read.Goals as goal

pub returns-then-eq : goal.returns-then-eq
returns-then-eq c = (
  tt,
  fixed_is c.args.line.now (codes "end") c.as_slice.result.now c.if-eq.ensures
      c.as_slice.ensures,
)

pub returns : goal.returns
returns c = end_not c.args.line.now c.as_slice.result.now c.if-eq.ensures c.as_slice.ensures
