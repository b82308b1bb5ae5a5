use Rattle.std.proofs.Common.{refl, ◌∙◌}
use Rattle.cycle_search.proofs.EndFacts.{begun}
use Rattle.cycle_search.proofs.SeekFacts.{seeks_none}
use Rattle.cycle_search.proofs.opening.begin.Goals as goal

pub returns : goal.returns
returns c = λ plan.
    begun c.args.kind c.args.inst.now c.args.stations plan _ c.tasks-tasks.ensures.line c.requires.none c.requires.some
    c.requires.few
    c.first_ends-ends.ensures.lower c.first_ends-ends.ensures.upper c.first_ends-ends.ensures.limit
    c.in_ok-all_at_first.ensures (c.from_vec.ensures ∙ c.new.ensures.items) c.in_ok-first_book.ensures refl
    (seeks_none plan c.none.result c.none.ensures)
