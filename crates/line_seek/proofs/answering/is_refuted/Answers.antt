use Rattle.std.proofs.Common.{sym, ◌∙◌}
use Rattle.round_helpers.proofs.Lookups.{found_answers}
use Rattle.line_seek.proofs.AnswerFacts.{entry_refutes, pairs_refute}
use Rattle.line_seek.proofs.answering.is_refuted.Goals as goal

pub returns-in-Found-clause-refuted : goal.returns-in-Found-clause-refuted
returns-in-Found-clause-refuted c = λ t.
    entry_refutes c.args.book.now c.args.inst.now c.all-all.result c.args.stations c.requires.same c.all-all.ensures.value
    (found_answers c.args.book.now.state.entries c.all-all.result c.args.stations c.args.book.now.about.cycle
    c.in-Found.id c.in-Found.most (sym c.in-Found.is ∙ c.look.ensures))

pub returns-in-Refuted-clause-refuted : goal.returns-in-Refuted-clause-refuted
returns-in-Refuted-clause-refuted c = λ t.
    pairs_refute c.args.book.now c.args.inst.now c.all-all.result c.args.stations c.requires.same c.all-all.ensures.value
    c.kind.result c.cycle.result c.in-Refuted.hull c.in-Refuted.two c.kind.ensures c.cycle.ensures
    c.in-Refuted.ensures.within c.in-Refuted.ensures.refuted
