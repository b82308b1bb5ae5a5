use Rattle.std.proofs.Common.{subst}
use Rattle.line_instance.specs.Line.{Line}
use Rattle.line_rules.specs.Entries.{Follows}
use Rattle.tests_line.proofs.books.publish.Goals as goal

pub publish-requires-clause-follows : goal.publish-requires-clause-follows
publish-requires-clause-follows c =
    let es = c.args.book.now.state.entries in
    let kind = c.args.book.now.about.kind in
    let Q : Line → Type 0 = λ l. Follows kind l es c.in-Some.step in
    subst Q c.instance.ensures (c.in-Some.ensures.follows kind es)
