use Rattle.std.proofs.Common.{◌+◌, List, take, drop, subst, arith}
use Rattle.std.proofs.lemmas.List.{take-append-drop, length-take}
use Rattle.line_rules.specs.Entries.{Follows}
use Rattle.line_rules.specs.declared.types.Entry.{Entry}
use Rattle.line_rules.proofs.LongerLists.{follows_longer}
use Rattle.effic_search.proofs.CountFacts.{other_few, others_few, counted_next, left_next, some_units}
use Rattle.effic_search.proofs.counting.counted.Goals as goal

pub overflow_add-all : goal.overflow_add-all
overflow_add-all c =
    let es = c.args.entries.now in
    omega (
      arith,
      c.loop-k.invariant.0.entries,
      others_few (take c.loop-k.k es),
      length-take c.loop-k.k es,
      other_few c.at-entry.result.now.why,
      c.searched.ensures,
      c.requires.few,
    )

pub units_of-requires-clause-follows : goal.units_of-requires-clause-follows
units_of-requires-clause-follows c =
    let es = c.args.entries.now in
    let k = c.loop-k.k in
    let e = c.at-entry.result.now in
    let P : List Entry → Type 0 = λ z. Follows c.args.kind c.args.inst.now z e in
    subst P (take-append-drop k es) (follows_longer c.args.kind c.args.inst.now (take k es) (drop k es) e
    (c.requires.derived k e c.at-entry.ensures))

pub units_of-requires-clause-units : goal.units_of-requires-clause-units
units_of-requires-clause-units c =
    let i = c.loop-k.invariant in
    some_units c.args.inst.now c.args.entries.now c.loop-k.k (c.loop-k.k + 1) c.at-entry.result.now c.at-entry.ensures
    (omega arith) i.1.0 c.args.most i.1.1 (omega (arith, i.1.2, i.2))

pub overflow_add-all-in-loop-k : goal.overflow_add-all-in-loop-k
overflow_add-all-in-loop-k c =
    let i = c.loop-k.invariant in
    let left = left_next c.args.inst.now c.args.entries.now c.loop-k.k (c.loop-k.k + 1) c.at-entry.result.now
    c.at-entry.ensures (omega arith) i.1.0 c.units_of.result i.1.1 c.units_of.ensures.units in
    omega (arith, left.2, i.1.2, c.requires.small)

pub loop-k-preserved : goal.loop-k-preserved
loop-k-preserved c =
    let i = c.loop-k.invariant in
    let left = left_next c.args.inst.now c.args.entries.now c.loop-k.k (c.loop-k.k + 1) c.at-entry.result.now
    c.at-entry.ensures (omega arith) i.1.0 c.units_of.result i.1.1 c.units_of.ensures.units in (
      counted_next c.args.inst.now c.args.entries.now c.loop-k.k (c.loop-k.k + 1) c.at-entry.result.now
          c.at-entry.ensures (omega arith) c.searched.result c.units_of.result c.loop-k.all c.searched.ensures
          c.units_of.ensures.units i.0,
      (left.0, left.1, omega (arith, left.2, i.1.2)),
      omega (arith, i.2),
    )
