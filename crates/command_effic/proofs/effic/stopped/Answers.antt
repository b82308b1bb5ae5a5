use Rattle.std.proofs.Common.{inr, refl}
use Rattle.command_effic.specs.EfficText.{stopped_text}
use Rattle.command_effic.proofs.FoundFacts.{told_behind}
use Rattle.command_effic.proofs.ProductLengths.{stop_fits}
use Rattle.command_effic.proofs.effic.stopped.Goals as goal

pub returns : goal.returns
returns c = λ kind least most closing_from stopped counted.
    let a = c.args in
    record {
      certificate = a.cert;
      keeps = refl;
      answer = inr (
        refl,
        record {
          why = a.why;
          closing_from = closing_from;
          seeks = a.seeks;
          stopped = stopped;
          fits = stop_fits a.why kind a.inst.now least most a.plan.now a.cert closing_from a.seeks.kept stopped;
          counted = counted;
          printed = told_behind (stopped_text a.naming.now a.why a.cert) c.idle_of-idle.ensures c.in_ok-first.ensures
              c.in_ok-text.ensures;
        },
      );
    }
