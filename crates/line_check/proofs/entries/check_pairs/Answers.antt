use Rattle.std.proofs.Common.{◌∙◌, Bool, List, refl, sym, subst, arith}
use Rattle.std.proofs.lemmas.Bool.{false≢true}
use Rattle.line_rules.specs.Units.{UnitsBy}
use Rattle.line_rules.specs.Entries.{FollowsBy}
use Rattle.line_rules.specs.Pairs.{IsRefutedByPairs}
use Rattle.line_rules.specs.declared.types.Why.{Why}
use Rattle.line_check.proofs.entries.check_pairs.Goals as goal

pub returns-then-pairs_hold : goal.returns-then-pairs_hold
returns-then-pairs_hold c = λ earlier steps.
    let P : Why → Type 0 = λ z. UnitsBy c.args.inst.now c.args.entry.now z 0 in
    let Q : Why → Type 0 = λ z. FollowsBy c.args.kind c.args.inst.now earlier c.args.entry.now z in
    let R : List Bool → Type 0 = λ z. IsRefutedByPairs c.args.kind c.args.inst.now c.args.entry.now.cycle
    c.args.entry.now.set c.args.entry.now.most z in (
      record {
        set = c.requires.set;
        cycle = c.requires.cycle.some;
        by = subst Q (sym c.requires.way) (subst R c.set.ensures (c.pairs_hold.ensures.0 c.if-pairs_hold.true));
      },
      subst P (sym c.requires.way) refl,
      omega arith,
    )

pub returns : goal.returns
returns c = λ earlier steps.
    let R : List Bool → Type 0 = λ z. IsRefutedByPairs c.args.kind c.args.inst.now c.args.entry.now.cycle
    c.args.entry.now.set c.args.entry.now.most z in (
      (
        (
          c.args.two.now,
          (
            c.requires.way,
            λ f. false≢true (sym c.if-pairs_hold.false ∙ c.pairs_hold.ensures.1 (subst R (sym c.set.ensures) f)),
          ),
        ),
        refl,
      ),
      omega arith,
    )
