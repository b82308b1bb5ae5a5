use Rattle.std.proofs.Common.{ℕ, sym, subst, inl, inr, arith}
use Rattle.line_instance.specs.Truths.{In}
use Rattle.line_rules.specs.Bounds.{IsChained}
use Rattle.line_rules.proofs.BoundCases.{not_exceeded, none_is_exceeded, time_exceeds, long_exceeds, counts_exceed}
use Rattle.line_rules.proofs.BoundCases.{chains_decide}
use Rattle.check_loads.proofs.bounds.exceeds_of.Goals as goal
use Rattle.check_loads.proofs.bounds.exceeds_of.Goals.{then-is_empty-via-then-is_empty}
use Rattle.check_loads.proofs.bounds.exceeds_of.Goals.{then-is_empty-via-else-is_empty+then-most-ge-TOO_LONG}
use Rattle.check_loads.proofs.bounds.exceeds_of.Goals.{then-most-eq0-via-then-most-eq0}
use Rattle.check_loads.proofs.bounds.exceeds_of.Goals.{then-most-eq0-via-else-most-eq0+then-div_ceil-most}
use Rattle.check_loads.proofs.bounds.exceeds_of.Goals.{then-counts-gt0-via-then-counts-gt0}
use Rattle.check_loads.proofs.bounds.exceeds_of.Goals.{then-counts-gt0-via-else-counts-gt0+then-stations-most}

pub returns-then-is_empty : goal.returns-then-is_empty
returns-then-is_empty c = not_exceeded c.args.kind c.args.cycle c.args.most c.tasks-tasks.ensures.line
    c.tasks-tasks.ensures.ranked c.requires.set c.requires.some (elim c.then-is_empty.branch [
      | then-is_empty-via-then-is_empty w ↦ inl (c.is_empty.ensures.0 w.if-is_empty.true)
      | then-is_empty-via-else-is_empty+then-most-ge-TOO_LONG w ↦ inr w.if-most-ge-TOO_LONG.true
    ])

pub returns-then-most-eq0 : goal.returns-then-most-eq0
returns-then-most-eq0 c = elim c.then-most-eq0.branch [
  | then-most-eq0-via-then-most-eq0 w ↦ none_is_exceeded c.args.kind c.args.inst.now c.args.cycle c.args.set.now
      c.is_empty.ensures c.if-is_empty.false c.args.most (omega (arith, c.from-most.ensures, w.if-most-eq0.true))
  | then-most-eq0-via-else-most-eq0+then-div_ceil-most w ↦
      time_exceeds c.args.kind c.args.inst.now c.args.cycle c.args.set.now c.is_empty.ensures c.if-is_empty.false
      c.args.most c.from-most.ensures (omega (arith, c.from-most.ensures, c.if-most-ge-TOO_LONG.false))
      c.requires.some c.requires.times.total w.div_ceil.ensures w.if-div_ceil-most.true
]

pub returns-then-counts-gt0 : goal.returns-then-counts-gt0
returns-then-counts-gt0 c = elim c.then-counts-gt0.branch [
  | then-counts-gt0-via-then-counts-gt0 w ↦ long_exceeds c.args.kind c.args.inst.now c.args.cycle c.args.set.now
      c.is_empty.ensures c.if-is_empty.false c.args.most c.counts_of-counts.ensures c.if-most-ge-TOO_LONG.false
      w.if-counts-gt0.true
  | then-counts-gt0-via-else-counts-gt0+then-stations-most w ↦
      counts_exceed c.args.kind c.args.inst.now c.args.cycle c.args.set.now c.is_empty.ensures c.if-is_empty.false
      c.args.most c.counts_of-counts.ensures c.from-most.ensures w.stations.ensures.value c.if-most-ge-TOO_LONG.false
      w.if-stations-most.true
]

pub returns : goal.returns
returns c =
    chains_decide c.args.kind c.args.inst.now c.args.cycle c.args.set.now c.is_empty.ensures c.if-is_empty.false
    c.args.most c.counts_of-counts.ensures c.from-most.ensures c.stations.ensures.value c.requires.some
    c.requires.times.total c.div_ceil.ensures
    c.if-div_ceil-most.false c.if-counts-gt0.false c.if-stations-most.false c.has_longer_chain.ensures
    (omega (arith, c.if-most-eq0.false))

pub has_longer_chain-requires-clause-among : goal.has_longer_chain-requires-clause-among
has_longer_chain-requires-clause-among c =
    let P : ℕ → Type 0 = λ n. (j : ℕ) → IsChained c.args.kind c.args.inst.now c.args.cycle c.args.set.now n j
    → In c.args.chained.now j in
    subst P (sym c.from-most.ensures) c.requires.chained
