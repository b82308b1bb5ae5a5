use Rattle.std.proofs.Common.{take}
use Rattle.line_check.proofs.entries.check_entry.Goals as goal

pub returns-in-Bound : goal.returns-in-Bound
returns-in-Bound c = c.check_bound.ensures (take c.args.k c.args.entries.now) c.args.steps

pub returns-in-Swap : goal.returns-in-Swap
returns-in-Swap c = c.check_swap.ensures c.args.kind c.args.steps

pub returns-in-Pairs : goal.returns-in-Pairs
returns-in-Pairs c = c.check_pairs.ensures (take c.args.k c.args.entries.now) c.args.steps
