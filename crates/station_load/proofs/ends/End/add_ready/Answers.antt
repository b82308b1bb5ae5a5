use Rattle.std.proofs.Common.{◌≡◌, ◌∙◌, ◌↔◌, Bool, List, refl, sym, ap, subst, inl, inr, arith}
use Rattle.std.proofs.lemmas.Bool.{cases_Bool, false≢true}
use Rattle.line_instance.specs.Truths.{IsEmpty, IsSubset, meet, minus}
use Rattle.line_instance.specs.Line.{has}
use Rattle.line_instance.proofs.Members.{In-meet, In-meet_parts, In-minus, In-minus_parts}
use Rattle.line_rules.proofs.ReadyFacts.{fewer_left}
use Rattle.line_rules.proofs.SideTurns.{Freeing, candidate_turn}
use Rattle.station_load.specs.declared.ends.End.{End}
use Rattle.station_load.proofs.ends.End.add_ready.Goals as goal
use Rattle.station_load.proofs.ends.End.add_ready.Goals.{then-is_covered, else-is_covered}

-- what is ahead in the set stands at the side where none of it is absent there
same_absent : (A R here first : List Bool) → here ≡ first
    → IsSubset (meet A R) here ↔ IsEmpty (meet A (minus R first))
same_absent A R here first stand = (
  λ all j m.
      let p = In-meet_parts A (minus R first) j m in
      let q = In-minus_parts R first j p.1 in
      false≢true (sym q.1 ∙ ap (λ b. has b j) (sym stand) ∙ all j (In-meet A R j p.0 q.0)),
  λ none j m.
      let p = In-meet_parts A R j m in
      elim (cases_Bool (has first j)) [
        | inl y ↦ ap (λ b. has b j) stand ∙ y
        | inr n ↦ absurd (none j (In-meet A (minus R first) j p.0 (In-minus R first j p.1 n)))
      ],
)

pub nearest-requires : goal.nearest-requires
nearest-requires c = λ i m. c.requires.set.tasks i (c.requires.candidates i
    (c.loop-task.invariant.adding.within i m)).0

pub loop-task-smaller : goal.loop-task-smaller
loop-task-smaller c = fewer_left c.loop-task.left c.waiting.result.now c.in-Some.task c.in-Some.ensures.some
    c.remove.ensures.value c.take_out.ensures.value

pub loop-task-preserved : goal.loop-task-preserved
loop-task-preserved c =
    let P : End → Type 0 = λ e. Freeing c.args.inst.now c.args.side c.args.set.now c.args.self.now.tasks
    c.args.candidates c.args.self.now.free c.take_out.new.set e.tasks e.free e.places in
    let same = same_absent c.ahead.result.now c.args.set.now c.loop-task.self.tasks c.args.self.now.tasks
    c.loop-task.invariant.stand in
    let turn = candidate_turn c.loop-task.invariant
    c.requires.candidates c.in-Some.task c.in-Some.ensures.some
    c.ahead.result.now c.waiting.result.now c.ahead.ensures.members refl
    refl c.waiting.ensures.members c.remove.ensures.value c.take_out.ensures.value in
    elim c.if-is_covered.branch [
      | then-is_covered w ↦
          subst P (sym w.self-is) (turn.comes_free c.tasks-tasks.ensures.line c.tasks-tasks.ensures.ranked
          (same.0 (c.is_covered.ensures.0 w.if-is_covered.true))
          (omega (arith, c.in-Some.ensures.below, c.tasks-tasks.ensures.line.small)) w.insert.ensures.value
          w.insert.ensures.truths
          w.place_of.ensures.within w.place_of.ensures.task w.mark.ensures.value
          w.mark.ensures.truths)
      | else-is_covered w ↦ subst P (sym w.self-is) (turn.stays_shut
          (λ e. false≢true (sym w.if-is_covered.false ∙ c.is_covered.ensures.1 (same.1 e))))
    ]
