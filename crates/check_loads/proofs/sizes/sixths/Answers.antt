use Rattle.std.proofs.Common.{arith}
use Rattle.std.proofs.lemmas.Bool.Decides.{nat_tests}
use Rattle.line_rules.specs.Bounds.{sixths}
use Rattle.check_loads.proofs.sizes.sixths.Goals as goal

pub returns-then-thirds-cycles-clause-value : goal.returns-then-thirds-cycles-clause-value
unfolding sixths
returns-then-thirds-cycles-clause-value c = grind (arith, nat_tests, c.requires.some, c.if-thirds-cycles.true)

pub returns-then-thirds-cycles-2-clause-value : goal.returns-then-thirds-cycles-2-clause-value
unfolding sixths
returns-then-thirds-cycles-2-clause-value c = grind (
  arith,
  nat_tests,
  c.requires.some,
  c.if-thirds-cycles.false,
  c.if-thirds-cycles-2.true,
)

pub returns-then-thirds-cycle-clause-value : goal.returns-then-thirds-cycle-clause-value
unfolding sixths
returns-then-thirds-cycle-clause-value c = grind (
  arith,
  nat_tests,
  c.requires.some,
  c.if-thirds-cycles.false,
  c.if-thirds-cycles-2.false,
  c.if-thirds-cycle.true,
)

pub returns-then-thirds-cycle-2-clause-value : goal.returns-then-thirds-cycle-2-clause-value
unfolding sixths
returns-then-thirds-cycle-2-clause-value c = grind (
  arith,
  nat_tests,
  c.requires.some,
  c.if-thirds-cycles.false,
  c.if-thirds-cycles-2.false,
  c.if-thirds-cycle.false,
  c.if-thirds-cycle-2.true,
)

pub returns-else-thirds-cycle-2-clause-value : goal.returns-else-thirds-cycle-2-clause-value
unfolding sixths
returns-else-thirds-cycle-2-clause-value c = grind (
  arith,
  nat_tests,
  c.requires.some,
  c.if-thirds-cycles.false,
  c.if-thirds-cycles-2.false,
  c.if-thirds-cycle.false,
  c.if-thirds-cycle-2.false,
)
