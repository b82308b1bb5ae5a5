use Rattle.std.proofs.Common.{◌∙◌, take, refl, sym, subst, inr, arith, length-take}
use Rattle.std.proofs.lemmas.Bool.{false≢true}
use Rattle.line_rules.specs.Units.{UnitsBy}
use Rattle.line_rules.specs.Entries.{FollowsBy}
use Rattle.line_rules.specs.declared.types.Why.{Why}
use Rattle.line_check.proofs.EntryFaults.{swapped, swap_of}
use Rattle.line_check.proofs.entries.check_swap.Goals as goal
use Rattle.line_rules.proofs.ListFacts.{get_taken}

pub returns-then-cite-k : goal.returns-then-cite-k
returns-then-cite-k c = λ kind steps. (
  (
    inr (
      c.args.cite,
      c.args.out_task,
      c.args.in_task,
      (
        c.requires.way,
        (refl, omega (arith, c.if-cite-k.true, length-take c.args.k c.args.entries.now, c.requires.k)),
      ),
    ),
    refl,
  ),
  omega arith,
)

pub returns-then-is_swapped : goal.returns-then-is_swapped
returns-then-is_swapped c = λ kind steps.
    let P : Why → Type 0 = λ z. UnitsBy c.args.inst.now c.args.entry.now z 0 in
    let earlier = take c.args.k c.args.entries.now in
    let Q : Why → Type 0 = λ z. FollowsBy kind c.args.inst.now earlier c.args.entry.now z in (
      record {
        set = c.requires.set;
        cycle = c.requires.cycle.some;
        by = subst Q (sym c.requires.way) (swapped c.args.inst.now earlier c.args.entry.now
            c.at.result.now c.args.cite c.args.out_task c.args.in_task
            (get_taken c.args.entries.now c.args.k c.args.cite c.at.result.now (omega (arith, c.if-cite-k.false))
            c.at.ensures) (c.is_swapped.ensures.0 c.if-is_swapped.true));
      },
      subst P (sym c.requires.way) refl,
      omega arith,
    )

pub returns : goal.returns
returns c = λ kind steps. (
  (
    (
      c.args.cite,
      c.args.out_task,
      c.args.in_task,
      (
        c.requires.way,
        (
          omega (arith, length-take c.args.k c.args.entries.now, c.requires.k, c.if-cite-k.false),
          λ f. false≢true (sym c.if-is_swapped.false ∙ c.is_swapped.ensures.1
              (swap_of c.args.inst.now (take c.args.k c.args.entries.now) c.args.entry.now c.at.result.now c.args.cite
              c.args.out_task c.args.in_task (get_taken c.args.entries.now c.args.k c.args.cite c.at.result.now
              (omega (arith, c.if-cite-k.false)) c.at.ensures) f)),
        ),
      ),
    ),
    refl,
  ),
  omega arith,
)
