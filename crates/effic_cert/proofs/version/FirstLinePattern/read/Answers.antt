use Rattle.cert_lines.proofs.JudgedLine.{fixed_is}
use Rattle.effic_cert.specs.Product.{version_line}
use Rattle.effic_cert.specs.declared.version.Version.TheVariants as version
use Rattle.effic_cert.proofs.VersionLines.{version_not}
use Rattle.effic_cert.proofs.version.FirstLinePattern.read.Goals as goal

pub returns-then-eq : goal.returns-then-eq
returns-then-eq c = (
  tt,
  fixed_is c.args.line.now (version_line version.One) c.text.result.now c.if-eq.ensures c.text.ensures,
)

pub returns-then-eq-2 : goal.returns-then-eq-2
returns-then-eq-2 c = (
  tt,
  fixed_is c.args.line.now (version_line version.Two) c.text-2.result.now c.if-eq-2.ensures c.text-2.ensures,
)

pub returns : goal.returns
returns c = version_not c.args.line.now c.text.result.now c.text-2.result.now c.if-eq.ensures c.text.ensures
    c.if-eq-2.ensures c.text-2.ensures
