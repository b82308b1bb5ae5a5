use Rattle.std.proofs.Common.{ℕ, subst}
use Rattle.line_instance.specs.Truths.{full_to}
use Rattle.line_rules.specs.Balance.{all_tasks}
use Rattle.line_rules.specs.Entries.{HasAnswer}
use Rattle.entry_lists.proofs.TrimFacts.{derived_earlier}
use Rattle.line_seek.proofs.TrimFacts.{sought_of}
use Rattle.line_seek.proofs.seeking.Seeker.refuted.Goals as goal

pub trim-requires-clause-earlier : goal.trim-requires-clause-earlier
trim-requires-clause-earlier c =
    derived_earlier c.args.self.scratch.about.kind c.args.self.scratch.about.line c.into_parts-entries.result.0
    c.into_parts-entries.ensures.derived

pub returns-clause-lemmas : goal.returns-clause-lemmas
returns-clause-lemmas c =
    sought_of c.args.self.scratch c.args.inst.now c.args.self.used c.into_parts-entries.result.0 c.in_ok-lemmas.lemmas
    (full_to c.tasks-tasks.result) c.args.most c.cycle-cycle.result c.requires.same c.into_parts-entries.ensures.entries
    c.requires.seeking.paid c.into_parts-entries.ensures.derived c.into_parts-entries.ensures.statable
    c.in_ok-lemmas.ensures.trimmed c.in_ok-lemmas.ensures.units c.in_ok-lemmas.ensures.ranges

pub returns-clause-derived : goal.returns-clause-derived
returns-clause-derived c =
    c.in_ok-lemmas.ensures.derived c.args.self.scratch.about.kind c.args.self.scratch.about.line
    c.into_parts-entries.ensures.derived

pub returns-clause-answers : goal.returns-clause-answers
returns-clause-answers c =
    let A : ℕ → Type 0 = λ z. HasAnswer c.in_ok-lemmas.lemmas (full_to z) c.args.most c.cycle-cycle.result in
    let C : ℕ → Type 0 = λ z. HasAnswer c.in_ok-lemmas.lemmas (all_tasks c.args.inst.now) c.args.most z in
    subst C c.cycle-cycle.ensures (subst A c.tasks-tasks.ensures.tasks c.in_ok-lemmas.ensures.answers)
