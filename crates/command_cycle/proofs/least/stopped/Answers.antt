use Rattle.std.proofs.Common.{ap, refl, inr, ◌∙◌, ◌++◌, ℕ, List}
use Rattle.command_outcome.specs.Bounds.{seek_text}
use Rattle.command_cycle.specs.CycleText.{stopped_text}
use Rattle.command_cycle.proofs.FitFacts.{stop_fits}
use Rattle.command_cycle.proofs.least.stopped.Goals as goal

pub returns : goal.returns
returns c =
    let a = c.args in
    let told : List ℕ = seek_text a.plan.now.seek a.seeks.used a.seeks.most a.seeks.kept in
    let said : ℕ → List ℕ = λ idle. stopped_text a.naming.now a.kind a.lower a.upper a.balance idle in
    let spent = c.requires.spent in
    let proved = c.certify_cycle_stop-certificate.ensures a.plan.now spent.0 c.requires.plan.limit spent.1 in
    record {
      certificate = c.certify_cycle_stop-certificate.result;
      keeps = refl;
      answer = inr (
        refl,
        record {
          lower = a.lower;
          upper = a.upper;
          balance = a.balance;
          proved = proved;
          fits = stop_fits a.kind a.inst.now a.stations a.plan.now a.lower a.upper a.balance
              c.certify_cycle_stop-certificate.result proved;
          seeks = a.seeks;
          counted = c.requires.seeks;
          printed = c.in_ok-text.ensures
              ∙ ap (λ (first : List ℕ). first ++ said c.idle_of-idle.result) c.in_ok-first.ensures
              ∙ ap (λ (idle : ℕ). told ++ said idle) c.idle_of-idle.ensures;
        },
      );
    }
