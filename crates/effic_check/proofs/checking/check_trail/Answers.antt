use Rattle.std.proofs.Common.{◌∙◌, ◌-◌, refl, sym, subst, inl, inr, arith, Option}
use Rattle.std.proofs.lemmas.Bool.{false≢true}
use Rattle.line_rules.specs.Units.{TrailUnits}
use Rattle.line_rules.specs.declared.types.Trail.{Trail}
use Rattle.line_check.specs.declared.types.FrameFault.TheVariants as fault
use Rattle.effic_check.specs.Accepted.{HasTrail}
use Rattle.effic_check.specs.Verdict.{TrailFails}
use Rattle.effic_check.proofs.FoundFacts.{trail_begins}
use Rattle.effic_check.proofs.checking.check_trail.Goals as goal

pub returns-then-not-is_allowed : goal.returns-then-not-is_allowed
returns-then-not-is_allowed c =
    let T : Option Trail → Type 0 =
    λ o. TrailFails c.args.inst.now c.args.cert.now o (c.args.steps - c.args.units) 0 fault.Allowed in
    inr (
      c.requires.shown,
      (
        c.args.units,
        (
          c.requires.done,
          c.requires.closed,
          subst T (sym c.requires.trail)
              (inl (λ a. false≢true (sym c.if-not-is_allowed.true ∙ c.is_allowed.ensures.1 a), refl, refl)),
        ),
      ),
    )

pub returns-in-Right : goal.returns-in-Right
returns-in-Right c =
    let H : Option Trail → Type 0 = λ o. HasTrail c.args.cert.now.kind c.args.inst.now c.args.cert.now o in
    let U : Option Trail → Type 0 = λ o. TrailUnits c.args.inst.now o c.in-Right.more in (
      refl,
      refl,
      record {
        tasks = c.requires.tasks;
        shown = c.requires.shown;
        derived = c.requires.done.0;
        closed = c.requires.closed;
        trail = subst H (sym c.requires.trail) (trail_begins c.args.inst.now c.args.cert.now c.args.trail.now
            (c.is_allowed.ensures.0 c.if-not-is_allowed.false) c.in-Right.ensures.0);
        spent = (
          c.args.units,
          c.in-Right.more,
          (c.requires.done.1, subst U (sym c.requires.trail) c.in-Right.ensures.1, refl),
        );
      },
      omega (arith, c.requires.done.2, c.in-Right.ensures.2),
    )
