use Rattle.std.proofs.Common.{arith}
use Rattle.line_instance.specs.Line.{Line}
use Rattle.line_rules.proofs.SumsOverMembers.{all_in_start}
use Rattle.line_rules.proofs.SizeClasses.{one_more}
use Rattle.station_search.specs.Mode.{is_source, is_sink}
use Rattle.station_search.proofs.Sources.{count_start, count_end, count_few, both_mode, fore_mode, back_mode}
use Rattle.station_search.proofs.modes.choose_mode.Goals as goal

pub loop-task-init : goal.loop-task-init
loop-task-init c =
    let e = c.into_iter-task-iterator.ensures.into_iter_gives in
    record {
      can_next = tt;
      finite = tt;
      members = all_in_start _ _ e;
      sources = count_start (is_source c.args.inst.now c.args.set.now) _ _ e;
      sinks = count_start (is_sink c.args.inst.now c.args.set.now) _ _ e;
    }

pub overflow_add-sources : goal.overflow_add-sources
overflow_add-sources c = omega (
  arith,
  one_more c.is_source.result,
  count_few (is_source c.args.inst.now c.args.set.now) c.args.set.now c.requires.truths,
  c.loop-task.invariant.sources,
  c.from-sources.ensures,
)

pub overflow_add-sinks : goal.overflow_add-sinks
overflow_add-sinks c = omega (
  arith,
  one_more c.is_sink.result,
  count_few (is_sink c.args.inst.now c.args.set.now) c.args.set.now c.requires.truths,
  c.loop-task.invariant.sinks,
  c.from-sinks.ensures,
)

pub returns-in-U-clause-mode : goal.returns-in-U-clause-mode
returns-in-U-clause-mode c = both_mode c.args.kind c.args.inst.now c.args.set.now c.in-U.is

pub returns-then-sources-sinks-clause-mode : goal.returns-then-sources-sinks-clause-mode
returns-then-sources-sinks-clause-mode c =
    let line : Line = c.args.inst.now in
    fore_mode c.args.kind line c.args.set.now c.loop-task.sources c.loop-task.sinks c.in-Straight.is
    (count_end (is_source line c.args.set.now) _ _ _ c.in-None.ensures.steps.0 c.loop-task.invariant.sources)
    (count_end (is_sink line c.args.set.now) _ _ _ c.in-None.ensures.steps.0 c.loop-task.invariant.sinks)
    c.if-sources-sinks.true

pub returns-else-sources-sinks-clause-mode : goal.returns-else-sources-sinks-clause-mode
returns-else-sources-sinks-clause-mode c =
    let line : Line = c.args.inst.now in
    back_mode c.args.kind line c.args.set.now c.loop-task.sources c.loop-task.sinks c.in-Straight.is
    (count_end (is_source line c.args.set.now) _ _ _ c.in-None.ensures.steps.0 c.loop-task.invariant.sources)
    (count_end (is_sink line c.args.set.now) _ _ _ c.in-None.ensures.steps.0 c.loop-task.invariant.sinks)
    c.if-sources-sinks.false
