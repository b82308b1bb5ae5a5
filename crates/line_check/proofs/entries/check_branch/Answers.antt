use Rattle.std.proofs.Common.{◌∙◌, take, refl, sym, subst, inl, arith}
use Rattle.std.proofs.lemmas.Bool.{false≢true}
use Rattle.line_rules.specs.Units.{UnitsBy}
use Rattle.line_rules.specs.Entries.{FollowsBy}
use Rattle.line_rules.specs.declared.types.Why.{Why}
use Rattle.line_check.specs.Faults.{IsReady}
use Rattle.line_check.proofs.EntryFaults.{some_task, ready_of, late_of}
use Rattle.line_check.proofs.entries.check_branch.Goals as goal

pub returns-in-Some : goal.returns-in-Some
returns-in-Some c = (
  (
    inl (
      c.args.mode,
      c.args.cites.now,
      (
        c.requires.way,
        (
          c.belongs.ensures.0 c.if-not-belongs.false,
          omega (arith, c.if-entry-eq0.false),
          some_task c.args.entry.now.set (λ h. false≢true (sym c.if-is_empty.false ∙ c.is_empty.ensures.1 h)),
          late_of c.args.entries.now c.args.k c.args.cites.now c.in-Some.cite c.requires.k c.in-Some.ensures.some,
        ),
      ),
    ),
    refl,
  ),
  omega arith,
)

pub returns-in-Right : goal.returns-in-Right
returns-in-Right c =
    let P : Why → Type 0 = λ z. UnitsBy c.args.inst.now c.args.entry.now z c.in-Right.units in
    let Q : Why → Type 0 = λ z. FollowsBy c.args.kind c.args.inst.now (take c.args.k c.args.entries.now)
    c.args.entry.now z in
    let r : IsReady c.args.kind (take c.args.k c.args.entries.now) c.args.entry.now c.args.mode c.args.cites.now =
    (ready_of c.args.kind c.args.entries.now c.args.k c.args.entry.now c.args.mode c.args.cites.now c.requires.k
    (c.belongs.ensures.0 c.if-not-belongs.false) (omega (arith, c.if-entry-eq0.false))
    (λ h. false≢true (sym c.if-is_empty.false ∙ c.is_empty.ensures.1 h)) (c.in_default.ensures.none refl)) in (
      record {
        set = c.requires.set;
        cycle = c.requires.cycle.some;
        by = subst Q (sym c.requires.way) (record {
          some = r.some;
          stations = r.stations;
          belongs = r.belongs;
          covers = c.in-Right.ensures.0;
        });
      },
      subst P (sym c.requires.way) c.in-Right.ensures.1,
      c.in-Right.ensures.2,
    )

pub returns-in-Uncovered : goal.returns-in-Uncovered
returns-in-Uncovered c = (
  (
    c.args.mode,
    c.args.cites.now,
    (
      c.requires.way,
      (
        (ready_of c.args.kind c.args.entries.now c.args.k c.args.entry.now c.args.mode c.args.cites.now c.requires.k
            (c.belongs.ensures.0 c.if-not-belongs.false) (omega (arith, c.if-entry-eq0.false))
            (λ h. false≢true (sym c.if-is_empty.false ∙ c.is_empty.ensures.1 h)) (c.in_default.ensures.none refl)),
        c.in-Uncovered.ensures.0,
        c.in-Uncovered.ensures.1,
      ),
    ),
  ),
  c.in-Uncovered.ensures.2,
)

pub returns-in-Spare : goal.returns-in-Spare
returns-in-Spare c = (
  (
    c.args.mode,
    c.args.cites.now,
    (
      c.requires.way,
      (
        (ready_of c.args.kind c.args.entries.now c.args.k c.args.entry.now c.args.mode c.args.cites.now c.requires.k
            (c.belongs.ensures.0 c.if-not-belongs.false) (omega (arith, c.if-entry-eq0.false))
            (λ h. false≢true (sym c.if-is_empty.false ∙ c.is_empty.ensures.1 h)) (c.in_default.ensures.none refl)),
        c.in-Spare.ensures.0,
        c.in-Spare.ensures.1,
      ),
    ),
  ),
  c.in-Spare.ensures.2,
)

pub returns-in-StepsEnded : goal.returns-in-StepsEnded
returns-in-StepsEnded c = (
  c.args.mode,
  c.args.cites.now,
  (
    c.requires.way,
    (
      (ready_of c.args.kind c.args.entries.now c.args.k c.args.entry.now c.args.mode c.args.cites.now c.requires.k
          (c.belongs.ensures.0 c.if-not-belongs.false) (omega (arith, c.if-entry-eq0.false))
          (λ h. false≢true (sym c.if-is_empty.false ∙ c.is_empty.ensures.1 h)) (c.in_default.ensures.none refl)),
      c.in-StepsEnded.ensures,
    ),
  ),
)
