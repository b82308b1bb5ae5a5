use Rattle.std.proofs.Common.{inl, refl}
use Rattle.command_effic.specs.EfficText.{optimal_text}
use Rattle.command_effic.proofs.FoundFacts.{told_behind}
use Rattle.command_effic.proofs.ProductLengths.{product_fits}
use Rattle.command_effic.proofs.effic.optimal.Goals as goal

pub returns : goal.returns
returns c = λ kind least most solved counted.
    let a = c.args in
    record {
      certificate = a.cert;
      keeps = refl;
      answer = inl (
        refl,
        record {
          seeks = a.seeks;
          solved = solved;
          fits = product_fits kind a.inst.now least most a.plan.now a.cert solved.certified solved.paid;
          counted = counted;
          printed = told_behind (optimal_text a.naming.now a.cert) c.idle_of-idle.ensures c.in_ok-first.ensures
              c.in_ok-text.ensures;
        },
      );
    }
