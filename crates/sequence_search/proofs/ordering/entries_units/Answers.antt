use Rattle.std.proofs.Common.{arith}
use Rattle.sequence_search.proofs.OrderFacts.{units_fit, units_more}
use Rattle.sequence_search.proofs.ordering.entries_units.Goals as goal

pub overflow_add-units : goal.overflow_add-units
overflow_add-units c = omega (
  arith,
  units_fit c.args.charges.now c.args.entries.now c.loop-k.k c.at.result.now c.at.ensures,
  c.loop-k.invariant,
  c.entry_units-units.ensures,
  c.requires.few,
)

pub loop-k-preserved : goal.loop-k-preserved
loop-k-preserved c = omega (
  arith,
  units_more c.args.charges.now c.args.entries.now c.loop-k.k c.at.result.now c.at.ensures,
  c.loop-k.invariant,
  c.entry_units-units.ensures,
)
