use Rattle.std.proofs.Common.{◌<◌, ℕ, List, take, sum, ap, ◌∙◌, refl, arith}
use Rattle.sequence_check.specs.Faults.{models_by, is_open, IsCiteFor}
use Rattle.sequence_check.proofs.MatchFacts.{ready, units_are, covers_all, matched_follows}
use Rattle.sequence_check.proofs.entries.check_cited.Goals as goal

pub returns-then-taken-len : goal.returns-then-taken-len
returns-then-taken-len c =
    let some : 0 < sum c.args.entry.now.rem = omega (
      arith,
      c.if-units_left-eq0.false,
      c.units_left.ensures,
      ap (λ (z : List ℕ). sum z) c.as_slice.ensures,
    ) in (
      (
        c.args.cites.now,
        (
          c.requires.way,
          (
            ready c.args.entries.now c.args.entry.now c.args.cites.now c.args.k c.requires.k some
                (c.in_default.ensures.none refl),
            record {
              covers = c.in-Through.ensures.0;
              left = omega (arith, c.in-Through.ensures.1, c.if-taken-len.true, c.len.ensures);
            },
            c.in-Through.ensures.2 ∙ units_are c.args.charges.now c.args.entry.now c.args.entry.now.why c.args.cites.now
                c.requires.way,
          ),
        ),
      ),
      c.in-Through.ensures.3,
    )

pub returns-else-taken-len : goal.returns-else-taken-len
returns-else-taken-len c =
    let t = c.args.times.now in
    let e = c.args.entry.now in
    let es = take c.args.k c.args.entries.now in
    let some : 0 < sum e.rem = omega (
      arith,
      c.if-units_left-eq0.false,
      c.units_left.ensures,
      ap (λ (z : List ℕ). sum z) c.as_slice.ensures,
    ) in (
      matched_follows t c.args.interval c.args.reach c.args.charges.now es e e.why c.args.cites.now c.requires.way
          (record {
            some = some;
            all = covers_all (is_open t c.args.interval c.args.reach c.args.charges.now e e.why)
                (IsCiteFor t c.args.interval c.args.reach c.args.charges.now es e e.why) c.args.cites.now
                (models_by c.args.charges.now e e.why) c.in-Through.ensures.0
                (omega (arith, c.in-Through.ensures.1, c.if-taken-len.false, c.len.ensures));
          }),
      c.in-Through.ensures.2 ∙ units_are c.args.charges.now e e.why c.args.cites.now c.requires.way,
      c.in-Through.ensures.3,
    )

pub returns-in-Uncovered : goal.returns-in-Uncovered
returns-in-Uncovered c =
    let some : 0 < sum c.args.entry.now.rem = omega (
      arith,
      c.if-units_left-eq0.false,
      c.units_left.ensures,
      ap (λ (z : List ℕ). sum z) c.as_slice.ensures,
    ) in (
      (
        c.args.cites.now,
        (
          c.requires.way,
          (
            ready c.args.entries.now c.args.entry.now c.args.cites.now c.args.k c.requires.k some
                (c.in_default.ensures.none refl),
            c.in-Uncovered.ensures.0,
            c.in-Uncovered.ensures.1,
            c.in-Uncovered.ensures.2,
          ),
        ),
      ),
      c.in-Uncovered.ensures.3,
    )
