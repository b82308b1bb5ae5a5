use Rattle.std.specs.Prelude.{codes}
use Rattle.cert_lines.proofs.JudgedLine.{fixed_is, kind_not}
use Rattle.cert_lines.proofs.line_forms.KindLinePattern.read.Goals as goal

pub returns-then-eq : goal.returns-then-eq
returns-then-eq c = (
  tt,
  fixed_is c.args.line.now (codes "line straight") c.as_slice.result.now c.if-eq.ensures
      c.as_slice.ensures,
)

pub returns-then-eq-2 : goal.returns-then-eq-2
returns-then-eq-2 c = (
  tt,
  fixed_is c.args.line.now (codes "line u") c.as_slice-2.result.now c.if-eq-2.ensures
      c.as_slice-2.ensures,
)

pub returns : goal.returns
returns c = kind_not c.args.line.now c.as_slice.result.now c.as_slice-2.result.now c.if-eq.ensures c.as_slice.ensures
    c.if-eq-2.ensures c.as_slice-2.ensures
