use Rattle.std.proofs.Common.{length, List, ap, arith}
use Rattle.line_rules.specs.declared.types.Entry.{Entry}
use Rattle.cycle_search.proofs.ReopenFacts.{have_cites}
use Rattle.cycle_search.proofs.Results.{solved_is}
use Rattle.cycle_search.proofs.searching.solved.Goals as goal

pub shown-requires-clause-cites : goal.shown-requires-clause-cites
shown-requires-clause-cites c =
    have_cites c.args.search.book.about.kind c.args.search.book.about.line c.into_parts-entries.result.0
    c.into_parts-entries.ensures.derived c.into_parts-entries.ensures.statable
    (omega (arith, c.requires.count, ap (λ (z : List Entry). length z) c.into_parts-entries.ensures.entries))

pub returns : goal.returns
returns c = λ plan b met.
    solved_is c.args.search.book.about.kind c.args.inst.now c.args.search.balance.stations plan c.args.search
    c.tasks-tasks.ensures.line c.into_parts-entries.result.0 c.into_parts-entries.ensures.entries
    c.into_parts-entries.ensures.derived c.into_parts-entries.ensures.statable c.in_ok-shown.field-0
    c.in_ok-shown.ensures.one c.in_ok-shown.ensures.more b met
