use Rattle.std.proofs.Common.{◌≡◌, ◌+◌, max, arith, rules}
use Rattle.std.proofs.lemmas.Bool.{ltb-true, ltb-false}
use Rattle.line_rules.specs.Bounds.{up}
use Rattle.lower_bounds.proofs.SizeFacts.{long_over, parts_over, sizes_fit}
use Rattle.lower_bounds.proofs.by_size.exceeds_by_sizes.Goals as goal

pub returns-then-counts-gt0-clause-over : goal.returns-then-counts-gt0-clause-over
returns-then-counts-gt0-clause-over c = λ kind d are _.
    long_over (c.counts-counts.ensures.counts d are) kind c.args.most c.requires.few c.if-counts-gt0.true

parts : (c : goal.After-max) → c.max.result
    ≡ max (c.counts-counts.result.above_half + up c.counts-counts.result.at_half 2)
    (up c.counts-counts.result.sixths 6)
parts c = search rules

pub returns-clause-over : goal.returns-clause-over
returns-clause-over c = λ kind d are e.
    parts_over (c.counts-counts.ensures.counts d are) kind c.args.most c.requires.few
    (omega (arith, parts c, ltb-true c.args.most c.max.result e))

pub returns-clause-fits : goal.returns-clause-fits
returns-clause-fits c = λ d are e.
    sizes_fit (c.counts-counts.ensures.counts d are) c.args.most c.if-counts-gt0.false
    (omega (arith, parts c, ltb-false c.args.most c.max.result e))
