use Rattle.std.proofs.Common.{◌*◌, ◌≤◌, length, arith, refl}
use Rattle.line_instance.specs.Line.{has}
use Rattle.line_instance.specs.Sums.{sum_where}
use Rattle.line_instance.proofs.Sums.{sum-next, sum-none, weigh-most}
use Rattle.line_instance.proofs.instance.sum_of.Goals as goal

pub overflow_add-sum : goal.overflow_add-sum
overflow_add-sum c =
    let g = c.in-Some.ensures.some in
    let next = sum-next c.args.set.now c.args.times.now c.loop-i.bound c.in-Some.i g
    (c.requires.set c.in-Some.i g.member) in
    let most : sum_where (has c.args.set.now) c.args.times.now ≤ length c.args.times.now * 200000000000000 =
    weigh-most (λ t. t) (has c.args.set.now) 200000000000000 c.args.times.now (λ i l. c.requires.times i) in
    omega (arith, next, most, c.loop-i.invariant.so_far)

pub loop-i-preserved : goal.loop-i-preserved
loop-i-preserved c =
    let g = c.in-Some.ensures.some in
    let next = sum-next c.args.set.now c.args.times.now c.loop-i.bound c.in-Some.i g
    (c.requires.set c.in-Some.i g.member) in
    record { few = omega (arith, g.below); so_far = omega (arith, next, c.loop-i.invariant.so_far) }

pub returns-clause-sum : goal.returns-clause-sum
returns-clause-sum c = omega (
  arith,
  sum-none c.args.set.now c.args.times.now c.loop-i.bound
      (c.in_default.ensures.none.0 refl),
  c.loop-i.invariant.so_far,
)

pub returns-clause-limit : goal.returns-clause-limit
returns-clause-limit c =
    let most : sum_where (has c.args.set.now) c.args.times.now ≤ length c.args.times.now * 200000000000000 =
    weigh-most (λ t. t) (has c.args.set.now) 200000000000000 c.args.times.now (λ i l. c.requires.times i) in
    omega (arith, most, c.loop-i.invariant.so_far)
