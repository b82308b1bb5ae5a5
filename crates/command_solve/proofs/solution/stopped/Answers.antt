use Rattle.std.proofs.Common.{◌++◌, inr, refl}
use Rattle.std.specs.Prelude.{string_bytes}
use Rattle.command_solve.specs.SolutionText.{stopped_text}
use Rattle.command_solve.proofs.FoundFacts.{of_best, stop_fits}
use Rattle.command_solve.proofs.solution.stopped.Goals as goal

pub returns : goal.returns
returns c = λ start old plan begun spent.
    let a = c.args in
    let proved = c.certify_warm_stop.ensures old.state.entries old.state.best.stations plan begun.room spent in
    record {
      certificate = c.certify_warm_stop.result;
      keeps = refl;
      answer = inr (
        refl,
        record {
          before = old.state.entries;
          first = string_bytes a.first;
          top = old.state.best.stations;
          begins = begun.begins;
          lower = a.lower;
          balance = a.book.state.best;
          few = spent.best;
          proved = proved;
          fits = stop_fits a.kind a.inst.now a.cycle plan old.state.entries a.lower a.book.state.best
              c.certify_warm_stop.result proved begun.few;
          printed = of_best (λ b idle. string_bytes a.first ++ stopped_text a.naming.now a.kind a.lower b idle)
              c.in_ok-text.text.items a.inst.now a.cycle c.best-balance.result.now a.book.state.best
              c.idle_of-idle.result c.in_ok-text.ensures c.best-balance.ensures.best c.idle_of-idle.ensures;
        },
      );
    }
