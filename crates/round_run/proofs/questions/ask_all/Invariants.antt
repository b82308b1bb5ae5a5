use Rattle.std.proofs.Common.{◌≡◌, ◌+◌, ◌-◌}
use Rattle.round_helpers.specs.Helping.{IsTeam, all_used}
use Rattle.round_run.specs.Plans.{all_left}
use Rattle.round_run.specs.inner.Questions.{IsPaid}
use Rattle.round_run.proofs.questions.ask_all.Given as goal

abbrev pub invariant-asking : goal.invariant-asking
invariant-asking g l = record {
  paid : IsPaid l.fn.book.about.kind l.inst l.fn.book.about.cycle l.fn.book.state.entries
      l.fn.book.state.best.stations l.first l.lower l.purse.closing.used (all_used l.purse.helper.items) l.book;
  sum : l.purse.closing.used + l.purse.closing.left ≡ l.fn.purse.closing.left;
  team : IsTeam l.purse.helper.items;
  helped : all_used l.purse.helper.items + all_left l.purse.helper.items ≡ all_left l.fn.purse.helper.items;
}

abbrev pub decreases-asking : goal.decreases-asking
decreases-asking g l = l.book.state.best.stations - l.lower
