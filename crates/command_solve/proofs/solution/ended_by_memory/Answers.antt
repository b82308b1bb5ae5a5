use Rattle.std.proofs.Common.{◌<◌, sym, subst}
use Rattle.std.proofs.lemmas.Result.{IfOk-weaker}
use Rattle.line_rules.specs.Entries.{IsDerived}
use Rattle.line_rules.specs.declared.types.Balance.{Balance as Assignment}
use Rattle.lemma_core.specs.Books.{MayBeBest}
use Rattle.round_run.proofs.CertificateFacts.{stopped_bounds}
use Rattle.command_outcome.proofs.FoundFacts.{cut_as}
use Rattle.command_solve.specs.Solution.{AreBounds, fewest_stations}
use Rattle.command_solve.proofs.solution.ended_by_memory.Goals as goal

pub returns-clause-answer : goal.returns-clause-answer
returns-clause-answer c =
    let a = c.args in
    let line = a.inst.now in
    let book = a.book.now in
    let cut = c.requires.stopped.4 in
    let best = subst (MayBeBest book.about) c.best.ensures.best c.best.ensures.right in
    let derived = subst (IsDerived book.about.kind book.about.line) c.entries-entries.ensures.entries
    c.entries-entries.ensures.derived in
    let bounds : AreBounds a.kind line a.cycle a.lower book.state.best.stations = record {
      true_bounds = stopped_bounds a.kind line a.cycle c.requires.stopped.0 c.requires.stopped.1 cut.added a.lower book
          c.requires.stopped.3 c.tasks-tasks.ensures.line c.tasks-tasks.ensures.ranked derived best cut.stopped;
      from = cut.from;
      first = c.requires.ranked.0;
      ranked = c.requires.ranked.1;
      most = c.requires.ranked.2;
    } in
    let B : Assignment → Type 0 = λ b. (a.lower < b.stations) × AreBounds a.kind line a.cycle a.lower b.stations in
    let shown = subst B (sym c.best.ensures.best) (cut.stopped.below, bounds) in
    IfOk-weaker c.cut_short.result _ _ (λ e told naming plan start.
    cut_as (fewest_stations naming a.kind line a.cycle plan start) a.lower c.best.result.now.stations e shown.0
    shown.1 told) c.cut_short.ensures.answer
