use Rattle.std.proofs.Common.{ap, refl, inl, ◌∙◌, ◌++◌, ℕ, List}
use Rattle.command_outcome.specs.Bounds.{seek_text}
use Rattle.command_cycle.specs.CycleText.{optimal_text}
use Rattle.command_cycle.proofs.FitFacts.{optimum_fits}
use Rattle.command_cycle.proofs.least.optimal.Goals as goal

pub returns : goal.returns
returns c =
    let a = c.args in
    let told : List ℕ = seek_text a.plan.now.seek a.seeks.used a.seeks.most a.seeks.kept in
    let said : ℕ → List ℕ = λ idle. optimal_text a.naming.now a.kind a.cycle a.balance idle in
    let proved = c.in_ok-certificate.ensures a.plan.now c.requires.plan.limit c.requires.solved in
    record {
      certificate = c.in_ok-certificate.certificate;
      keeps = refl;
      answer = inl (
        refl,
        record {
          cycle = a.cycle;
          balance = a.balance;
          proved = proved;
          fits = optimum_fits a.kind a.inst.now a.stations a.plan.now a.cycle a.balance
              c.in_ok-certificate.certificate proved;
          seeks = a.seeks;
          counted = c.requires.seeks;
          printed = c.in_ok-text.ensures
              ∙ ap (λ (first : List ℕ). first ++ said c.idle_of-idle.result) c.in_ok-first.ensures
              ∙ ap (λ (idle : ℕ). told ++ said idle) c.idle_of-idle.ensures;
        },
      );
    }
