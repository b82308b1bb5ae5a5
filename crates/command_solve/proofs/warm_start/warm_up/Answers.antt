use Rattle.command_solve.specs.WarmStart.{IsOpened}
use Rattle.command_solve.proofs.TurnFacts.{ready_up}
use Rattle.command_solve.proofs.warm_start.warm_up.Goals as goal

pub returns : goal.returns
returns g c =
    let a = c.args in
    let opened : IsOpened a.kind a.inst.now a.cycle c.in_ok-book.book = record {
      best = a.best;
      ranked = c.requires.ranked;
      about = c.in_ok-book.ensures.about;
      state = c.in_ok-book.ensures.state;
    } in
    ready_up a.kind a.inst.now a.cycle a.plan.now a.olds c.in_ok-book.book opened c.take_olds.result
    c.take_olds.ensures.taken c.take_olds.ensures.about c.take_olds.ensures.reserved
