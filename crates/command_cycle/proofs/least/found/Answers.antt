use Rattle.std.proofs.Common.{rules}
use Rattle.cycle_search.specs.Outcomes.{IsStopped as HasStopped}
use Rattle.cycle_search.proofs.Results.{none_below, has_balance}
use Rattle.command_outcome.proofs.FoundFacts.{cut_as}
use Rattle.command_cycle.specs.Found.{least_cycle}
use Rattle.command_cycle.proofs.least.found.Goals as goal

pub returns-in_ok-cut_short-in-Memory-clause-answer : goal.returns-in_ok-cut_short-in-Memory-clause-answer
returns-in_ok-cut_short-in-Memory-clause-answer g c =
    let a = c.args in
    let line = a.inst.now in
    let m = a.stations in
    let end = c.in-Stopped in
    let s : HasStopped a.kind line m a.plan.now end.lower end.upper end.balance end.entries end.trail = search rules in
    cut_as (least_cycle a.naming.now a.kind line m a.plan.now) end.lower end.upper c.in_ok-cut_short-in-Memory.field-0
    s.below (record {
      true_bounds = (
        has_balance a.kind line m end.upper end.balance s.balance,
        none_below a.kind line m end.lower end.entries c.tasks-tasks.ensures.line s.proof,
      );
      from = s.from;
      most = s.most;
    })
    c.in_ok-cut_short-in-Memory.ensures.answer
