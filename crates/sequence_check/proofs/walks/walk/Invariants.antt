use Rattle.std.proofs.Common.{◌≡◌, ◌≤◌, take}
use Rattle.sequence_rules.specs.Entries.{models_left, needs_cite}
use Rattle.sequence_check.specs.Walks.{AnswersStep, CoversBelow, needed}
use Rattle.sequence_check.proofs.walks.walk.Given as goal

abbrev pub invariant-loop-model : goal.invariant-loop-model
invariant-loop-model l = record {
  covers : CoversBelow (needs_cite l.times l.interval l.reach l.rem l.starts l.need)
      (AnswersStep l.times l.interval l.reach l.charges (take l.k l.entries) l.rem l.starts l.need) l.cites l.model;
  taken : l.taken ≡ needed (needs_cite l.times l.interval l.reach l.rem l.starts l.need)
      (AnswersStep l.times l.interval l.reach l.charges (take l.k l.entries) l.rem l.starts l.need) l.cites l.model;
  units : l.units ≡ models_left l.rem l.model;
  few : l.units ≤ l.steps;
}
