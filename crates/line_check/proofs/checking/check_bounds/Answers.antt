use Rattle.std.proofs.Common.{◌∙◌, ◌-◌, ◌<◌, refl, sym, subst, inl, inr, arith, Option}
use Rattle.std.proofs.lemmas.Bool.{false≢true}
use Rattle.line_rules.specs.Accepted.{Refutes, HasTrail}
use Rattle.line_rules.specs.Units.{TrailUnits}
use Rattle.line_rules.specs.declared.types.Trail.{Trail}
use Rattle.line_check.specs.Certificates.{TrailFails}
use Rattle.line_check.specs.Lists.{AreFound}
use Rattle.line_check.specs.declared.types.ListFound.{ListFound}
use Rattle.line_check.specs.declared.types.FrameFault.TheVariants as fault
use Rattle.line_check.proofs.VerdictFacts.{trail_begins}
use Rattle.line_check.proofs.checking.check_bounds.Goals as goal
use Rattle.line_check.proofs.checking.check_bounds.Goals.{else-lower-gt1-via-then-lower-gt1+else-not-refutes_below}
use Rattle.line_check.proofs.checking.check_bounds.Goals.{else-lower-gt1-via-else-lower-gt1}

pub returns-then-not-is_allowed : goal.returns-then-not-is_allowed
returns-then-not-is_allowed c =
    let A : ListFound → Type 0 = λ f. AreFound c.args.kind c.args.inst.now c.args.entries.now c.args.steps f in
    let done = subst A c.in-Right.is (c.requires.found (c.in_default.ensures.none refl)) in
    let refuted : 1 < c.args.lower → Refutes c.args.inst.now c.args.entries.now c.args.ask c.args.lower =
    λ l. elim c.else-lower-gt1.branch [
      | else-lower-gt1-via-then-lower-gt1+else-not-refutes_below w ↦
          w.refutes_below.ensures.0 w.if-not-refutes_below.false
      | else-lower-gt1-via-else-lower-gt1 w ↦ absurd (omega (arith, l, w.if-lower-gt1.false))
    ] in
    let T : Option Trail → Type 0 = λ o. TrailFails c.args.kind c.args.inst.now c.args.ask c.args.lower c.args.upper
    c.args.entries.now o (c.args.steps - c.in-Right.units) 0 fault.Allowed in
    inr (
      c.in_default.ensures.none refl,
      (
        c.in-Right.units,
        (
          done,
          refuted,
          subst T (sym c.in-Some-trail.is) (inl (
            λ a. false≢true
                (sym c.if-not-is_allowed.true ∙ c.is_allowed.ensures.1 a),
            refl,
            refl,
          )),
        ),
      ),
    )

pub returns-in-Right-check_frames : goal.returns-in-Right-check_frames
returns-in-Right-check_frames c =
    let A : ListFound → Type 0 = λ f. AreFound c.args.kind c.args.inst.now c.args.entries.now c.args.steps f in
    let done = subst A c.in-Right.is (c.requires.found (c.in_default.ensures.none refl)) in
    let refuted : 1 < c.args.lower → Refutes c.args.inst.now c.args.entries.now c.args.ask c.args.lower =
    λ l. elim c.else-lower-gt1.branch [
      | else-lower-gt1-via-then-lower-gt1+else-not-refutes_below w ↦
          w.refutes_below.ensures.0 w.if-not-refutes_below.false
      | else-lower-gt1-via-else-lower-gt1 w ↦ absurd (omega (arith, l, w.if-lower-gt1.false))
    ] in
    let H : Option Trail → Type 0 = λ o. HasTrail c.args.kind c.args.inst.now c.args.ask c.args.lower c.args.upper
    c.args.entries.now o in
    let U : Option Trail → Type 0 = λ o. TrailUnits c.args.inst.now o c.in-Right-check_frames.more in
    let shown = c.in_default.ensures.none refl in (
      refl,
      refl,
      record {
        balance = shown.1;
        stations = shown.0;
        derived = done.0;
        goal = refuted;
        trail = subst H (sym c.in-Some-trail.is) (trail_begins c.args.kind c.args.inst.now c.args.ask c.args.lower
            c.args.upper c.args.entries.now c.in-Some-trail.trail (c.is_allowed.ensures.0 c.if-not-is_allowed.false)
            c.in-Right-check_frames.ensures.0);
      },
      (
        c.in-Right.units,
        c.in-Right-check_frames.more,
        (
          done.1,
          subst U (sym c.in-Some-trail.is) c.in-Right-check_frames.ensures.1,
          refl,
        ),
      ),
      omega (arith, done.2, c.in-Right-check_frames.ensures.2),
    )

pub returns-in-None : goal.returns-in-None
returns-in-None c =
    let A : ListFound → Type 0 = λ f. AreFound c.args.kind c.args.inst.now c.args.entries.now c.args.steps f in
    let done = subst A c.in-Right.is (c.requires.found (c.in_default.ensures.none refl)) in
    let refuted : 1 < c.args.lower → Refutes c.args.inst.now c.args.entries.now c.args.ask c.args.lower =
    λ l. elim c.else-lower-gt1.branch [
      | else-lower-gt1-via-then-lower-gt1+else-not-refutes_below w ↦
          w.refutes_below.ensures.0 w.if-not-refutes_below.false
      | else-lower-gt1-via-else-lower-gt1 w ↦ absurd (omega (arith, l, w.if-lower-gt1.false))
    ] in
    let H : Option Trail → Type 0 = λ o. HasTrail c.args.kind c.args.inst.now c.args.ask c.args.lower c.args.upper
    c.args.entries.now o in
    let U : Option Trail → Type 0 = λ o. TrailUnits c.args.inst.now o 0 in
    let shown = c.in_default.ensures.none refl in (
      refl,
      refl,
      record {
        balance = shown.1;
        stations = shown.0;
        derived = done.0;
        goal = refuted;
        trail = subst H (sym c.in-None.is) tt;
      },
      (c.in-Right.units, 0, (done.1, subst U (sym c.in-None.is) refl, omega arith)),
      done.2,
    )
