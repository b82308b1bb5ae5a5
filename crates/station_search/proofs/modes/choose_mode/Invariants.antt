use Rattle.std.proofs.Common.{◌≡◌, ◌+◌}
use Rattle.std.specs.List.{count_by}
use Rattle.line_instance.specs.Truths.{members_of}
use Rattle.line_rules.proofs.SumsOverMembers.{AllIn}
use Rattle.station_search.specs.Mode.{is_source, is_sink}
use Rattle.station_search.proofs.modes.choose_mode.Given as goal

abbrev pub invariant-loop-task : goal.invariant-loop-task
invariant-loop-task l = record {
  can_next : (goal.iterator-loop-task).can_next l.task-iterator;
  finite : (goal.iterator-loop-task).is_finite l.task-iterator;
  members : AllIn l.set l.task-iterator;
  sources : l.sources + count_by (is_source l.inst l.set) l.task-iterator
      ≡ count_by (is_source l.inst l.set) (members_of l.set);
  sinks : l.sinks + count_by (is_sink l.inst l.set) l.task-iterator
      ≡ count_by (is_sink l.inst l.set) (members_of l.set);
}
