use Rattle.std.proofs.Common.{◌≡◌, ◌≤◌, take}
use Rattle.sequence_rules.specs.Entries.{is_light}
use Rattle.sequence_check.specs.Walks.{ServesUnit, CoversBelow, needed}
use Rattle.sequence_check.proofs.rows.walk_row.Given as goal

abbrev pub invariant-loop-model : goal.invariant-loop-model
invariant-loop-model l = record {
  covers : CoversBelow (is_light l.times l.reach l.charges l.entry.starts l.entry.least)
      (ServesUnit l.times l.interval l.reach l.charges (take l.k l.entries) l.entry) l.cites l.model;
  taken : l.taken ≡ needed (is_light l.times l.reach l.charges l.entry.starts l.entry.least)
      (ServesUnit l.times l.interval l.reach l.charges (take l.k l.entries) l.entry) l.cites l.model;
  few : l.model ≤ l.steps;
}
