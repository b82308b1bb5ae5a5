use Rattle.std.proofs.Common.{List, Bool, sym, subst}
use Rattle.std.proofs.lemmas.Option.{slice_get_within}
use Rattle.line_rules.specs.lines.Truths.{full_to, members_of}
use Rattle.entry_lists.specs.Trim.{IsFirstAnswer, AreClosed, AreKeptEntries}
use Rattle.entry_lists.proofs.MarkFacts.{marks_closed}
use Rattle.entry_lists.proofs.TrimFacts.{of_value, trimmed_by, derived_of, fresh_of, answer_of, units_of, entries_of}
use Rattle.entry_lists.proofs.trimming.trim.Goals as goal

pub kept-requires : goal.kept-requires
kept-requires c =
    let P : List Bool → Type 0 = λ m. AreClosed c.args.entries m in
    subst P (sym c.deref.ensures.value) (marks_closed c.args.entries c.first_answer-goal.result
    c.in_ok-marks.marks.items (slice_get_within c.args.entries _ _ c.first_answer-goal.ensures.there)
    c.requires.earlier c.in_ok-marks.ensures)

pub returns-clause-trimmed : goal.returns-clause-trimmed
returns-clause-trimmed c =
    let P : List Bool → Type 0 = λ s. IsFirstAnswer c.args.entries s c.args.most c.args.cycle
    c.first_answer-goal.result in
    of_value _ _ c.kept.result
    (λ new k. trimmed_by c.args.entries (full_to c.args.tasks) c.args.most c.args.cycle c.first_answer-goal.result
    c.in_ok-marks.marks.items new (subst P c.full_to-all.ensures.value c.first_answer-goal.ensures)
    c.in_ok-marks.ensures
    (let R : List Bool → Type 0 = λ m. AreKeptEntries c.args.entries (members_of m) new in
    subst R c.deref.ensures.value k))
    c.kept.ensures

pub returns-clause-derived : goal.returns-clause-derived
returns-clause-derived c = of_value _ _ c.kept.result (λ new t.
    derived_of c.args.entries (full_to c.args.tasks) c.args.most c.args.cycle new t) (returns-clause-trimmed c)

pub returns-clause-fresh : goal.returns-clause-fresh
returns-clause-fresh c = of_value _ _ c.kept.result (λ new t.
    fresh_of c.args.entries (full_to c.args.tasks) c.args.most c.args.cycle new t) (returns-clause-trimmed c)

pub returns-clause-answers : goal.returns-clause-answers
returns-clause-answers c = of_value _ _ c.kept.result (λ new t.
    answer_of c.args.entries (full_to c.args.tasks) c.args.most c.args.cycle new t) (returns-clause-trimmed c)

pub returns-clause-units : goal.returns-clause-units
returns-clause-units c = of_value _ _ c.kept.result (λ new t.
    units_of c.args.entries (full_to c.args.tasks) c.args.most c.args.cycle new t) (returns-clause-trimmed c)

pub returns-clause-ranges : goal.returns-clause-ranges
returns-clause-ranges c = of_value _ _ c.kept.result (λ new t.
    entries_of c.args.entries (full_to c.args.tasks) c.args.most c.args.cycle new t) (returns-clause-trimmed c)
