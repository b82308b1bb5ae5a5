use Rattle.std.proofs.Common.{◌≡◌, ◌+◌, arith}
use Rattle.line_instance.specs.Line.{has}
use Rattle.line_instance.specs.Sums.{sum_where}
use Rattle.line_rules.specs.Loads.{rest, taken}
use Rattle.check_loads.specs.Standing.{stand}
use Rattle.line_rules.proofs.Rest.{rest_sum, long_rest}
use Rattle.line_check.proofs.walks.is_closed_by_time.Goals as goal

pub overflow_sub-q : goal.overflow_sub-q
overflow_sub-q c = omega (
  arith,
  c.requires.posed.times.total,
  c.requires.walk.sum,
  rest_sum c.args.inst.now c.args.q.now.set (stand c.args.walk.now) (c.requires.walk.load c.requires.given).within,
)

pub returns-clause-closed : goal.returns-clause-closed
returns-clause-closed c = λ e.
    let left : sum_where (has c.args.q.now.set) c.args.inst.now.times
    ≡ sum_where (has (taken (stand c.args.walk.now))) c.args.inst.now.times + sum_where
    (has (rest c.args.q.now.set (stand c.args.walk.now))) c.args.inst.now.times =
    rest_sum c.args.inst.now c.args.q.now.set (stand c.args.walk.now) (c.requires.walk.load c.requires.given).within in
    long_rest c.args.q.now.kind c.args.inst.now c.args.q.now.cycle (rest c.args.q.now.set (stand c.args.walk.now))
    c.args.q.now.most c.requires.posed.cycle.some (omega (arith, c.if-q-eq0.false))
    (omega (arith, c.if-q-gt-TOO_LONG.false))
    (omega (
      arith,
      left,
      c.if-from-q.false,
      c.requires.posed.times.total,
      c.requires.posed.room,
      c.requires.walk.sum,
      c.from.ensures,
    ))
