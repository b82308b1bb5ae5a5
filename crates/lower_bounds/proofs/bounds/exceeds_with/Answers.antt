use Rattle.std.proofs.Common.{◌∙◌, sym, inl, inr, arith}
use Rattle.std.proofs.lemmas.Bool.{false≢true}
use Rattle.line_rules.proofs.BoundCases.{not_exceeded, none_is_exceeded, time_exceeds, time_part}
use Rattle.lower_bounds.proofs.bounds.exceeds_with.Goals as goal
use Rattle.lower_bounds.proofs.bounds.exceeds_with.Goals.{then-is_empty-via-then-is_empty}
use Rattle.lower_bounds.proofs.bounds.exceeds_with.Goals.{then-is_empty-via-else-is_empty+then-most-ge-TOO_LONG}
use Rattle.lower_bounds.proofs.bounds.exceeds_with.Goals.{then-most-eq0-via-then-most-eq0}
use Rattle.lower_bounds.proofs.bounds.exceeds_with.Goals.{then-most-eq0-via-else-most-eq0+then-div_ceil-most}

pub returns-then-is_empty : goal.returns-then-is_empty
returns-then-is_empty c = not_exceeded c.args.kind c.args.cycle c.args.most c.tasks-tasks.ensures.line
    c.tasks-tasks.ensures.ranked c.requires.set c.requires.some (elim c.then-is_empty.branch [
      | then-is_empty-via-then-is_empty w ↦ inl (c.is_empty.ensures.0 w.if-is_empty.true)
      | then-is_empty-via-else-is_empty+then-most-ge-TOO_LONG w ↦ inr w.if-most-ge-TOO_LONG.true
    ])

pub returns-then-most-eq0 : goal.returns-then-most-eq0
returns-then-most-eq0 c = elim c.then-most-eq0.branch [
  | then-most-eq0-via-then-most-eq0 w ↦ none_is_exceeded c.args.kind c.args.inst.now c.args.cycle c.args.set.now
      c.is_empty.ensures c.if-is_empty.false c.args.most (omega (arith, c.from-most.ensures, w.if-most-eq0.true))
  | then-most-eq0-via-else-most-eq0+then-div_ceil-most w ↦
      time_exceeds c.args.kind c.args.inst.now c.args.cycle c.args.set.now c.is_empty.ensures c.if-is_empty.false
      c.args.most c.from-most.ensures (omega (arith, c.from-most.ensures, c.if-most-ge-TOO_LONG.false))
      c.requires.some c.requires.times.total w.div_ceil.ensures w.if-div_ceil-most.true
]

pub exceeds_by_tasks-requires-clause-task : goal.exceeds_by_tasks-requires-clause-task
exceeds_by_tasks-requires-clause-task c = λ h. false≢true (sym c.if-is_empty.false ∙ c.is_empty.ensures.1 h)

pub exceeds_by_tasks-requires-clause-total : goal.exceeds_by_tasks-requires-clause-total
exceeds_by_tasks-requires-clause-total c = omega (
  arith,
  c.if-div_ceil-most.false,
  time_part c.args.inst.now
      c.args.cycle c.args.set.now c.args.times.total c.div_ceil.result c.requires.some c.requires.times.total
      c.div_ceil.ensures,
)
