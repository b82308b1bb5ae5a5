use Rattle.std.proofs.Common.{◌∙◌, sym, arith}
use Rattle.std.proofs.lemmas.Bool.{false≢true}
use Rattle.line_rules.proofs.JoinTests.{taken_tasks, may_by_tests, parted_is_empty, ahead_is_there}
use Rattle.check_loads.proofs.full.may_join.Goals as goal

pub sum-requires : goal.sum-requires
sum-requires c = taken_tasks c.args.load.now c.union-taken.ensures.value c.requires.sets c.union-taken.ensures.truths

pub returns-then-not-is_empty : goal.returns-then-not-is_empty
returns-then-not-is_empty c = (
  λ e. absurd (false≢true e),
  λ may. absurd (false≢true (sym c.if-not-is_empty.true ∙ c.is_empty.ensures.1
      (parted_is_empty c.apart.result.now c.union-taken.ensures.value c.apart.ensures.members c.meet.ensures.value
      may))),
)

pub returns : goal.returns
returns c = (
  λ e. may_by_tests c.args.task c.apart.result.now c.ahead.result.now c.union-taken.ensures.value (cc)
      (sym c.has-2.ensures ∙ c.if-has.false) (omega (arith, c.sum.ensures.sum, c.time.ensures.time))
      c.apart.ensures.members c.meet.ensures.value (c.is_empty.ensures.0 c.if-not-is_empty.false)
      c.ahead.ensures.members c.meet-2.ensures.value c.part.ensures (c.is_subset.ensures.0 e),
  λ may. c.is_subset.ensures.1 (ahead_is_there c.ahead.result.now c.ahead.ensures.members c.meet-2.ensures.value
      c.part.ensures may),
)
