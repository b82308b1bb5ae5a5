use Rattle.std.proofs.Common.{◌∙◌, ap, inl, inr, refl}
use Rattle.station_report.specs.InfeasibleText.{infeasible_text}
use Rattle.command_solve.proofs.FoundFacts.{refusal_fits}
use Rattle.command_solve.proofs.solution.infeasible.Goals as goal

pub returns : goal.returns
returns c = λ start plan. record {
  certificate = c.certify_too_long.result;
  keeps = refl;
  answer = inl (
    refl,
    inr (inr (record {
      task = c.args.task;
      least = c.requires.long;
      proved = c.certify_too_long.ensures;
      fits = refusal_fits c.args.kind c.args.inst.now c.args.cycle c.args.task c.certify_too_long.result
          c.certify_too_long.ensures;
      printed = c.in_ok-text.ensures ∙ ap (λ k. infeasible_text c.args.naming.now c.args.task k) c.time.ensures.time;
    })),
  );
}
