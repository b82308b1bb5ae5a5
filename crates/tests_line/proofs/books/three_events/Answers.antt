use Rattle.std.proofs.Common.{List, sym, subst}
use Rattle.line_instance.specs.Line.{Line}
use Rattle.line_rules.specs.Entries.{Follows}
use Rattle.lemma_core.specs.declared.types.Event.{Event}
use Rattle.lemma_core.specs.Laws.{AllMayCome}
use Rattle.tests_line.proofs.books.three_events.Goals as goal

pub returns : goal.returns
returns c =
    let about = c.args.book.now.about in
    let state = c.args.book.now.state in
    let P : List Event → Type 0 = λ z. AllMayCome about state z in
    let Q : Line → Type 0 = λ l. Follows about.kind l state.entries c.in-Some.step in
    subst P (sym c.in_ok-vec.ensures.items) (
      (
        subst Q c.instance-2.ensures
            (c.in-Some.ensures.follows about.kind state.entries),
        c.in-Some.ensures.range,
      ),
      (tt, (tt, tt)),
    )
