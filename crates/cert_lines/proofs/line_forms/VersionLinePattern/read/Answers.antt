use Rattle.std.specs.Prelude.{codes}
use Rattle.cert_lines.proofs.JudgedLine.{fixed_is, version_not}
use Rattle.cert_lines.proofs.line_forms.VersionLinePattern.read.Goals as goal

pub returns-then-eq : goal.returns-then-eq
returns-then-eq c = (
  tt,
  fixed_is c.args.line.now (codes "line balance certificate 2") c.as_slice.result.now
      c.if-eq.ensures c.as_slice.ensures,
)

pub returns-then-eq-2 : goal.returns-then-eq-2
returns-then-eq-2 c = (
  tt,
  fixed_is c.args.line.now (codes "line balance certificate 1") c.as_slice-2.result.now
      c.if-eq-2.ensures c.as_slice-2.ensures,
)

pub returns-then-eq-3 : goal.returns-then-eq-3
returns-then-eq-3 c = (
  tt,
  fixed_is c.args.line.now (codes "line balance certificate 3") c.as_slice-3.result.now
      c.if-eq-3.ensures c.as_slice-3.ensures,
)

pub returns : goal.returns
returns c = version_not c.args.line.now c.as_slice.result.now c.as_slice-2.result.now c.as_slice-3.result.now
    c.if-eq.ensures c.as_slice.ensures c.if-eq-2.ensures c.as_slice-2.ensures c.if-eq-3.ensures c.as_slice-3.ensures
