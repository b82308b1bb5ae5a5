use Rattle.std.proofs.Common.{arith}
use Rattle.cycle_search.proofs.ReopenFacts.{again_reopened}
use Rattle.cycle_search.proofs.trying.reopened.Goals as goal

pub returns-clause-reopened : goal.returns-clause-reopened
returns-clause-reopened c = λ plan b.
    again_reopened c.args.kind c.args.inst.now c.args.stations plan c.args.cycle c.args.search c.reopen.result
    c.args.best b c.reopen.ensures.reopened c.reopen.ensures.reserved
    (omega (arith, c.len.ensures.len, c.if-len-gt-MAX_ENTRIES.false)) c.if-search-gt-MAX_PAID.false c.requires.from
    c.requires.to (omega (arith, c.requires.above, c.requires.best.few)) c.requires.tried
