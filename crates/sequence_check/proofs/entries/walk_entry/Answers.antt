use Rattle.std.proofs.Common.{ℕ, List, take, length, subst, sym, inl, inr}
use Rattle.std.proofs.Math.Path.{subst₂}
use Rattle.sequence_values.specs.declared.types.SeqWhy.{SeqWhy}
use Rattle.sequence_rules.specs.Entries.{is_left, needs_cite}
use Rattle.sequence_check.specs.Walks.{AnswersStep, Tells}
use Rattle.sequence_check.specs.Faults.{models_by, is_walked, is_open, IsCiteFor}
use Rattle.sequence_check.proofs.entries.walk_entry.Goals as goal

pub returns-in-Charge : goal.returns-in-Charge
returns-in-Charge c =
    let P : SeqWhy → Type 0 = λ w. Tells
    (is_open c.args.times.now c.args.interval c.args.reach c.args.charges.now c.args.entry.now w)
    (IsCiteFor c.args.times.now c.args.interval c.args.reach c.args.charges.now (take c.args.k c.args.entries.now)
    c.args.entry.now w) c.args.cites.now (is_walked c.args.entry.now w)
    (models_by c.args.charges.now c.args.entry.now w) c.args.steps c.walk_row.result in
    subst P (sym c.in-Charge.is) c.walk_row.ensures

pub returns-in-Bound : goal.returns-in-Bound
returns-in-Bound c =
    let R : List ℕ → List ℕ → Type 0 = λ rem starts. Tells
    (needs_cite c.args.times.now c.args.interval c.args.reach rem starts c.args.entry.now.least)
    (AnswersStep c.args.times.now c.args.interval c.args.reach c.args.charges.now (take c.args.k c.args.entries.now) rem
    starts c.args.entry.now.least) c.args.cites.now (is_left rem) (length rem) c.args.steps c.walk.result in
    let own : R c.args.entry.now.rem c.args.entry.now.starts =
    subst₂ R c.as_slice-rem.ensures c.as_slice-starts.ensures c.walk.ensures in
    let P : SeqWhy → Type 0 = λ w. Tells
    (is_open c.args.times.now c.args.interval c.args.reach c.args.charges.now c.args.entry.now w)
    (IsCiteFor c.args.times.now c.args.interval c.args.reach c.args.charges.now (take c.args.k c.args.entries.now)
    c.args.entry.now w) c.args.cites.now (is_walked c.args.entry.now w)
    (models_by c.args.charges.now c.args.entry.now w) c.args.steps c.walk.result in
    elim c.in-Bound.is [ inl bound ↦ subst P (sym bound) own | inr branch ↦ subst P (sym branch.1) own ]
