use Rattle.std.proofs.Common.{◌+◌, ◌-◌, refl, arith}
use Rattle.line_instance.specs.Line.{has}
use Rattle.line_instance.proofs.Sums.{weigh-most}
use Rattle.line_rules.proofs.HeadTail.{few_beside, met_set, room_beside, beside_is, ceil_le}
use Rattle.lower_bounds.proofs.chains.around.Goals as goal

pub overflow_add-most : goal.overflow_add-most
overflow_add-most c =
    omega (
      arith,
      weigh-most (λ t. t) (has c.args.set.now) 200000000000000 c.args.inst.now.times
          (λ i l. c.tasks-tasks.ensures.line.times i),
    )

pub overflow_cast-enough : goal.overflow_cast-enough
overflow_cast-enough c =
    omega (
      arith,
      c.if-from-enough.false,
      c.from.ensures,
      weigh-most (λ t. t) (has c.args.set.now) 200000000000000
          c.args.inst.now.times (λ i l. c.tasks-tasks.ensures.line.times i),
    )

pub returns-then-from-enough-clause-none : goal.returns-then-from-enough-clause-none
returns-then-from-enough-clause-none c = λ _.
    few_beside c.args.inst.now c.tasks-tasks.ensures.line c.args.set.now c.requires.set c.args.j c.requires.member
    c.args.cycle c.args.least c.requires.some (omega (
      arith,
      c.enough-enough.ensures,
      c.from.ensures,
      c.if-from-enough.true,
    ))

pub returns-in_err-apart-clause-none : goal.returns-in_err-apart-clause-none
returns-in_err-apart-clause-none c = λ _.
    few_beside c.args.inst.now c.tasks-tasks.ensures.line c.args.set.now c.requires.set c.args.j c.requires.member
    c.args.cycle c.args.least c.requires.some (omega (
      arith,
      c.enough-enough.ensures,
      c.from.ensures,
      c.if-from-enough.false,
      c.in_err-apart.ensures.none refl,
    ))

pub times_in-requires : goal.times_in-requires
times_in-requires c = met_set c.args.inst.now c.tasks-tasks.ensures.line c.args.set.now c.requires.set c.args.j
    c.requires.member c.before-before.result.now c.meet.result c.meet.ensures.value c.meet.ensures.truths

pub overflow_sub-tail-2 : goal.overflow_sub-tail-2
overflow_sub-tail-2 c =
    let room = room_beside c.args.inst.now c.tasks-tasks.ensures.line c.args.set.now c.requires.set c.args.j
    c.requires.member c.before-before.result.now c.before-before.ensures.members c.meet.result c.meet.ensures.value
    (c.times_in.result.total + c.time-own.result) (omega (arith, c.times_in.ensures.times.total)) in
    omega (arith, room, c.in_ok-apart.ensures.some)

pub overflow_add-stations : goal.overflow_add-stations
overflow_add-stations c =
    let all = weigh-most (λ t. t) (has c.args.set.now) 200000000000000 c.args.inst.now.times
    (λ i l. c.tasks-tasks.ensures.line.times i) in
    let h = c.times_in.result.total + c.time-own.result in
    omega (
      arith,
      all,
      c.times_in.ensures.times.total_limit,
      c.div_ceil.ensures,
      c.div_ceil-2.ensures,
      ceil_le h c.args.cycle,
      ceil_le (c.args.total + c.time-own.result - c.in_ok-apart.apart - h) c.args.cycle,
    )

pub returns-then-stations-least-clause-some : goal.returns-then-stations-least-clause-some
returns-then-stations-least-clause-some c =
    let h = c.times_in.result.total + c.time-own.result in
    let t = c.args.total + c.time-own.result - c.in_ok-apart.apart - h in
    let stations = beside_is c.args.inst.now c.tasks-tasks.ensures.line c.args.set.now c.requires.set c.args.j
    c.requires.member c.before-before.result.now c.before-before.ensures.members c.meet.result c.meet.ensures.value
    h (omega (arith, c.times_in.ensures.times.total)) c.args.cycle t c.requires.some
    (omega (arith, c.in_ok-apart.ensures.some)) in
    omega (arith, stations, c.div_ceil.ensures, c.div_ceil-2.ensures)

pub returns-else-stations-least-clause-none : goal.returns-else-stations-least-clause-none
returns-else-stations-least-clause-none c = λ _.
    let h = c.times_in.result.total + c.time-own.result in
    let t = c.args.total + c.time-own.result - c.in_ok-apart.apart - h in
    let stations = beside_is c.args.inst.now c.tasks-tasks.ensures.line c.args.set.now c.requires.set c.args.j
    c.requires.member c.before-before.result.now c.before-before.ensures.members c.meet.result c.meet.ensures.value
    h (omega (arith, c.times_in.ensures.times.total)) c.args.cycle t c.requires.some
    (omega (arith, c.in_ok-apart.ensures.some)) in
    omega (arith, stations, c.div_ceil.ensures, c.div_ceil-2.ensures, c.if-stations-least.false)
