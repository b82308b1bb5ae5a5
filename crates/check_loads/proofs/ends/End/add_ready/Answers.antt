use Rattle.std.proofs.Common.{◌∙◌, sym, subst}
use Rattle.std.proofs.lemmas.Bool.{false≢true}
use Rattle.line_rules.proofs.ReadyFacts.{fewer_left}
use Rattle.line_rules.proofs.SideTurns.{Freeing, candidate_turn}
use Rattle.check_loads.specs.declared.ends.End.{End}
use Rattle.check_loads.proofs.ends.End.add_ready.Goals as goal
use Rattle.check_loads.proofs.ends.End.add_ready.Goals.{then-is_empty-2, else-is_empty-2}

pub loop-task-smaller : goal.loop-task-smaller
loop-task-smaller c = fewer_left c.loop-task.left c.waiting.result.now c.in-Some.task c.in-Some.ensures.some
    c.without.ensures.value c.minus-left.ensures.value

pub loop-task-preserved : goal.loop-task-preserved
loop-task-preserved c =
    let P : End → Type 0 = λ e. Freeing c.args.inst.now c.args.side c.args.set.now c.args.self.now.tasks
    c.args.candidates c.args.self.now.free c.minus-left.result e.tasks e.free e.places in
    let turn = candidate_turn c.loop-task.invariant c.requires.candidates c.in-Some.task c.in-Some.ensures.some
    c.ahead.result.now c.waiting.result.now c.ahead.ensures.members c.minus-absent.ensures.value
    c.meet.ensures.value c.waiting.ensures.members c.without.ensures.value c.minus-left.ensures.value in
    elim c.if-is_empty-2.branch [
      | then-is_empty-2 w ↦
          subst P (sym w.self-is) (turn.comes_free c.tasks-tasks.ensures.line c.tasks-tasks.ensures.ranked
          (c.is_empty-in-Some.ensures.0 w.if-is_empty-2.true) c.in-Some.ensures.below w.insert.ensures.value
          w.insert.ensures.truths
          w.place_of.ensures.within w.place_of.ensures.task w.insert-then-is_empty-2.ensures.value
          w.insert-then-is_empty-2.ensures.truths)
      | else-is_empty-2 w ↦ subst P (sym w.self-is) (turn.stays_shut
          (λ e. false≢true (sym w.if-is_empty-2.false ∙ c.is_empty-in-Some.ensures.1 e)))
    ]
