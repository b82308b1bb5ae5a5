use Rattle.std.proofs.Common.{◌≡◌, ◌∙◌, sym, arith}
use Rattle.std.proofs.lemmas.Bool.{false≢true}
use Rattle.line_rules.specs.Bounds.{bound}
use Rattle.line_rules.proofs.Monotone.{bound_holds}
use Rattle.line_rules.proofs.BoundCases.{empty_bound, long_bound, parts_bound, small_bound, time_part, count_parts}
use Rattle.lower_bounds.proofs.bounds.bound.Goals as goal

pub returns-then-is_empty-clause-value : goal.returns-then-is_empty-clause-value
returns-then-is_empty-clause-value c = sym (empty_bound c.args.kind c.args.inst.now c.args.cycle c.args.set.now
    (c.is_empty.ensures.0 c.if-is_empty.true))

pub returns-then-counts-gt0-clause-value : goal.returns-then-counts-gt0-clause-value
returns-then-counts-gt0-clause-value c =
    sym (long_bound c.args.kind c.args.inst.now c.args.cycle c.args.set.now
    (λ h. false≢true (sym c.if-is_empty.false ∙ c.is_empty.ensures.1 h))
    (omega (arith, c.if-counts-gt0.true, c.counts_of-counts.ensures.too_long)))

pub returns-then-counts-gt0-clause-holds : goal.returns-then-counts-gt0-clause-holds
returns-then-counts-gt0-clause-holds c = λ r l.
    let e = long_bound c.args.kind c.args.inst.now c.args.cycle c.args.set.now
    (λ h. false≢true (sym c.if-is_empty.false ∙ c.is_empty.ensures.1 h))
    (omega (arith, c.if-counts-gt0.true, c.counts_of-counts.ensures.too_long)) in
    bound_holds c.args.kind c.args.inst.now c.args.cycle c.requires.some c.args.set.now r (omega (arith, e, l))

value : (c : goal.After-longest_chain) → c.longest_chain.result
    ≡ bound c.args.kind c.args.inst.now c.args.cycle c.args.set.now
value c =
    let k = c.counts_of-counts.ensures in
    let time = time_part c.args.inst.now c.args.cycle c.args.set.now c.times_in-times.result.total c.div_ceil.result
    c.requires.some c.times_in-times.ensures.times.total c.div_ceil.ensures in
    let counts = count_parts c.args.inst.now c.args.cycle c.args.set.now c.counts_of-counts.result.above_half
    c.counts_of-counts.result.at_half c.counts_of-counts.result.sixths c.stations.result k.above_half k.at_half
    k.sixths c.stations.ensures in
    let parts = parts_bound c.args.kind c.args.inst.now c.args.cycle c.args.set.now
    (λ h. false≢true (sym c.if-is_empty.false ∙ c.is_empty.ensures.1 h))
    (omega (arith, c.if-counts-gt0.false, k.too_long)) in
    omega (arith, time, counts, parts, c.max-least.ensures, c.longest_chain.ensures)

pub overflow_cast-result : goal.overflow_cast-result
overflow_cast-result c =
    let small = small_bound c.args.kind c.args.inst.now c.args.cycle c.args.set.now c.tasks-tasks.ensures.line
    c.tasks-tasks.ensures.ranked c.requires.set c.requires.some
    (omega (arith, c.if-counts-gt0.false, c.counts_of-counts.ensures.too_long)) in
    omega (arith, value c, small, c.tasks-tasks.ensures.line.small)

pub returns-clause-value : goal.returns-clause-value
returns-clause-value c = value c

pub returns-clause-holds : goal.returns-clause-holds
returns-clause-holds c = λ r l. bound_holds c.args.kind c.args.inst.now c.args.cycle c.requires.some c.args.set.now r
    (omega (arith, value c, l))
