use Rattle.std.proofs.Common.{arith}
use Rattle.entry_lists.proofs.TrimFacts.{derived_earlier}
use Rattle.cycle_search.specs.Seek.{try_room}
use Rattle.cycle_search.proofs.ReopenFacts.{anew_reopened, book_kept}
use Rattle.cycle_search.proofs.trying.begun_anew.Goals as goal

pub kept_proof-requires-clause-earlier : goal.kept_proof-requires-clause-earlier
kept_proof-requires-clause-earlier c =
    derived_earlier c.args.search.book.about.kind c.args.search.book.about.line c.into_parts-entries.result.0
    c.into_parts-entries.ensures.derived

pub returns-clause-reopened : goal.returns-clause-reopened
returns-clause-reopened c = λ plan b.
    let s = c.args.search in
    let k = c.in_ok-proof.ensures c.args.kind c.args.inst.now (try_room plan) s.upper c.tasks.ensures.tasks b.ends.proof
    (book_kept c.args.kind c.args.inst.now c.args.stations plan s c.into_parts-entries.result.0
    c.into_parts-entries.ensures.entries c.into_parts-entries.ensures.derived c.into_parts-entries.ensures.statable b)
    in
    anew_reopened c.args.kind c.args.inst.now c.args.stations plan c.args.cycle s c.in_ok-proof.proof
    c.in_ok-open_book.field-0 c.args.best b k.0 k.1 c.in_ok-open_book.ensures.about c.in_ok-open_book.ensures.state
    c.in_ok-open_book.ensures.reserved c.requires.from c.requires.to
    (omega (arith, c.requires.above, c.requires.best.few)) c.requires.tried
