use Rattle.std.proofs.Common.{Bool, List, subst}
use Rattle.line_rules.specs.Pairs.{IsRefutedByPairs}
use Rattle.line_rules.proofs.PairGrowth.{grow}
use Rattle.round_run.proofs.rounds.pairs_refute.Goals as goal

pub returns-in-Refuted-clause-refuted : goal.returns-in-Refuted-clause-refuted
returns-in-Refuted-clause-refuted c = λ yes.
    let P : List Bool → Type 0 =
    λ s. IsRefutedByPairs c.args.kind c.args.inst.now c.args.cycle s c.args.most c.in-Refuted.two in (
      c.in-Refuted.two,
      subst P c.all.ensures.value (grow c.args.kind c.args.inst.now c.args.cycle c.in-Refuted.hull c.all.result
          c.args.most c.in-Refuted.two c.all.ensures.set c.in-Refuted.ensures.within c.in-Refuted.ensures.refuted),
    )
