use Rattle.std.proofs.Common.{arith}
use Rattle.line_rules.proofs.HeadTail.{few_beside}
use Rattle.check_loads.proofs.chains.needs_more.Goals as goal

pub returns-then-most-enough : goal.returns-then-most-enough
returns-then-most-enough c = (
  λ e. absurd (cc),
  λ l. absurd (omega (
    arith,
    l,
    few_beside c.args.inst.now c.tasks-tasks.ensures.line c.args.set.now c.requires.set
        c.args.j c.requires.member c.args.cycle c.args.stations c.requires.some
        (omega (
          arith,
          c.requires.total,
          c.enough-enough.ensures,
          c.time.ensures.time,
          c.from-most.ensures,
          c.if-most-enough.true,
        )),
  )),
)

pub returns-then-is_longer : goal.returns-then-is_longer
returns-then-is_longer c = (
  λ e. absurd (cc),
  λ l. absurd (omega (
    arith,
    l,
    few_beside c.args.inst.now c.tasks-tasks.ensures.line c.args.set.now c.requires.set
        c.args.j c.requires.member c.args.cycle c.args.stations c.requires.some
        (omega (
          arith,
          c.requires.total,
          c.enough-enough.ensures,
          c.time.ensures.time,
          c.from-most.ensures,
          c.if-most-enough.false,
          c.elsewhere.ensures.sum,
          c.is_longer.ensures.0 c.if-is_longer.true,
        )),
  )),
)
