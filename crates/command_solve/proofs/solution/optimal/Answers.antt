use Rattle.std.proofs.Common.{◌++◌, refl}
use Rattle.std.specs.Prelude.{string_bytes}
use Rattle.command_solve.specs.SolutionText.{optimal_text}
use Rattle.command_solve.proofs.FoundFacts.{of_best, optimum_fits}
use Rattle.command_solve.proofs.solution.optimal.Goals as goal

pub returns : goal.returns
returns c = λ before plan room few solved.
    let a = c.args in
    let proved = c.in_ok-certificate.ensures before plan room solved in
    record {
      certificate = c.in_ok-certificate.certificate;
      keeps = refl;
      done = refl;
      told = record {
        balance = a.book.state.best;
        proved = proved;
        fits = optimum_fits a.kind a.inst.now a.cycle plan before a.book.state.best c.in_ok-certificate.certificate
            proved few;
        printed = of_best (λ b idle. string_bytes a.first ++ optimal_text a.naming.now a.kind b idle)
            c.in_ok-text.text.items a.inst.now a.cycle c.best-balance.result.now a.book.state.best
            c.idle_of-idle.result c.in_ok-text.ensures c.best-balance.ensures.best c.idle_of-idle.ensures;
      };
    }
