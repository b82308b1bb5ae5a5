use Rattle.std.proofs.Common.{Err, sym, subst, refl}
use Rattle.alb_reader.specs.inner.Fillings.{GivesWhole, IsThere}
use Rattle.alb_reader.proofs.filling.whole_times.Goals as goal

pub returns-in-None : goal.returns-in-None
returns-in-None c =
    subst (λ x. GivesWhole c.args.given.now c.args.end (Err x)) (sym c.fault.ensures) (
      c.loop-i.i,
      record {
        within = c.loop-i-test.true;
        none = c.in-None.is;
        before = λ j l. subst IsThere (sym (c.loop-i.invariant.each j l)) tt;
      },
      refl,
      refl,
    )
