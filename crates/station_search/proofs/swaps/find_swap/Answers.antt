use Rattle.std.proofs.Common.{◌∙◌, ap, refl, true, false, Bool, List}
use Rattle.std.specs.Prelude.{slice_set}
use Rattle.line_rules.proofs.SumsOverMembers.{all_in_start, all_in_turn}
use Rattle.station_search.proofs.Events.{waits_none}
use Rattle.station_search.proofs.Standins.{back_again}
use Rattle.station_search.proofs.WaitFacts.{waits_both}
use Rattle.station_search.proofs.swaps.find_swap.Goals as goal

pub loop-task-init : goal.loop-task-init
loop-task-init g c = record {
  can_next = tt;
  finite = tt;
  members =
      all_in_start _ _ c.into_iter-task-iterator.ensures.into_iter_gives;
  swapped = refl;
  waits = waits_none (g.D.Desk.desk c.args.desk.now);
}

pub returns-in-Some-swap_out-clause-waits : goal.returns-in-Some-swap_out-clause-waits
returns-in-Some-swap_out-clause-waits g c = waits_both (g.D.Desk.desk c.args.desk.now) (g.D.Desk.desk c.loop-task.desk)
    (g.D.Desk.desk c.swap_out.new.desk) c.loop-task.invariant.waits c.swap_out.ensures.waits

pub loop-task-preserved : goal.loop-task-preserved
loop-task-preserved g c = record {
  can_next = tt;
  finite = tt;
  members = (all_in_turn c.args.set.now c.loop-task.task-iterator c.next.new.self c.in-Some.task
      c.in-Some.ensures.steps c.loop-task.invariant.members).1;
  swapped = c.insert.ensures.value ∙ ap (λ (z : List Bool). slice_set z c.in-Some.task true)
      (c.swap_out.ensures.swapped ∙ c.remove.ensures.value
      ∙ ap (λ (z : List Bool). slice_set z c.in-Some.task false) c.loop-task.invariant.swapped)
      ∙ back_again c.args.set.now c.in-Some.task false true
      (all_in_turn c.args.set.now c.loop-task.task-iterator c.next.new.self c.in-Some.task
      c.in-Some.ensures.steps c.loop-task.invariant.members).0;
  waits = waits_both (g.D.Desk.desk c.args.desk.now) (g.D.Desk.desk c.loop-task.desk)
      (g.D.Desk.desk c.swap_out.new.desk) c.loop-task.invariant.waits c.swap_out.ensures.waits;
}
