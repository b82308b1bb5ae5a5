use Rattle.std.proofs.Common.{◌↔◌, refl, arith, IsTrue, false, List, Bool}
use Rattle.std.specs.Int.{div_ceil}
use Rattle.std.proofs.lemmas.Bool.{false≢true}
use Rattle.line_instance.specs.Truths.{IsEmpty}
use Rattle.line_rules.proofs.BoundCases.{long_exceeds, counts_exceed, chains_decide, time_part}
use Rattle.line_rules.proofs.ChainFacts.{chained_member}
use Rattle.lower_bounds.proofs.bounds.exceeds_by_tasks.Goals as goal
use Rattle.lower_bounds.proofs.bounds.exceeds_by_tasks.Goals.{then-counts-gt0-via-then-counts-gt0}
use Rattle.lower_bounds.proofs.bounds.exceeds_by_tasks.Goals.{then-counts-gt0-via-else-counts-gt0+then-stations-most}

-- the set isn't empty, as the tests above tell it
told : (R : List Bool) → (IsEmpty R → ⊥) → IsTrue false ↔ IsEmpty R
told R some = (λ e. absurd (false≢true e), λ h. absurd (some h))

pub returns-then-counts-gt0 : goal.returns-then-counts-gt0
returns-then-counts-gt0 c = elim c.then-counts-gt0.branch [
  | then-counts-gt0-via-then-counts-gt0 w ↦ long_exceeds c.args.kind c.args.inst.now c.args.cycle c.args.set.now
      (told _ c.requires.task) refl c.args.most c.counts_of-counts.ensures c.requires.few w.if-counts-gt0.true
  | then-counts-gt0-via-else-counts-gt0+then-stations-most w ↦
      counts_exceed c.args.kind c.args.inst.now c.args.cycle c.args.set.now (told _ c.requires.task) refl
      c.args.most c.counts_of-counts.ensures refl w.stations.ensures c.requires.few
      w.if-stations-most.true
]

pub returns : goal.returns
returns c =
    let time = time_part c.args.inst.now c.args.cycle c.args.set.now c.args.times.total
    (div_ceil c.args.times.total c.args.cycle) c.requires.some c.requires.times.total refl in
    chains_decide c.args.kind c.args.inst.now c.args.cycle c.args.set.now (told _ c.requires.task) refl c.args.most
    c.counts_of-counts.ensures refl c.stations.ensures c.requires.some c.requires.times.total refl
    (omega (arith, time, c.requires.total)) c.if-counts-gt0.false c.if-stations-most.false c.has_longer_chain.ensures
    c.requires.one

pub has_longer_chain-requires-clause-asked : goal.has_longer_chain-requires-clause-asked
has_longer_chain-requires-clause-asked c = λ j h. chained_member c.args.kind _ _ _ _ j h
