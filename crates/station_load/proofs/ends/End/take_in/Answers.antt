use Rattle.std.proofs.Common.{refl, inl, inr, arith}
use Rattle.line_instance.proofs.Members.{In-meet, In-meet_parts}
use Rattle.line_rules.proofs.SidePlaces.{clear_in, move_in, set_in}
use Rattle.line_rules.proofs.SideTurns.{waiting_absent, end_grown}
use Rattle.station_load.proofs.ends.End.take_in.Goals as goal

-- nothing of the set waits for the task, so nothing comes free
pub returns-then-is_disjoint-clause-end : goal.returns-then-is_disjoint-clause-end
returns-then-is_disjoint-clause-end c =
    let is_task = c.requires.set.tasks c.args.task ((c.requires.end.ready.is c.args.task).0 c.requires.free).within in
    end_grown c.requires.end c.tasks-tasks.ensures.line c.requires.set c.args.task c.requires.free
    c.waiting-waiting.result.now c.insert.ensures.value c.waiting-waiting.ensures.members refl
    c.remove.ensures.value refl
    (λ i. (
      λ m. inl m,
      λ m. elim m [ inl o ↦ o | inr p ↦ absurd (c.is_disjoint.ensures.0 c.if-is_disjoint.true i p.0) ],
    ))
    (move_in c.args.inst.now c.tasks-tasks.ensures.ranked c.args.side c.args.self.now.tasks c.args.self.now.free
    c.args.self.now.places c.requires.end.marked c.insert.new.self c.remove.new.self c.args.task c.requires.free
    (set_in c.args.self.now.tasks c.insert.new.self c.args.task c.insert.ensures.value c.insert.ensures.truths
    (omega (arith, is_task, c.tasks-tasks.ensures.line.small)))
    (clear_in c.args.self.now.free c.remove.new.self c.args.task c.remove.ensures.value))

pub open-requires-clause-absent : goal.open-requires-clause-absent
open-requires-clause-absent c = λ i m a. (waiting_absent c.requires.end c.tasks-tasks.ensures.line c.requires.set
    c.args.task c.requires.free c.waiting-waiting.result.now c.insert.ensures.value c.waiting-waiting.ensures.members refl
    c.requires.closed i (In-meet c.waiting-waiting.result.now c.args.set.now i
    ((c.waiting-waiting.ensures.members i).1 a) m)).1

pub returns-clause-end : goal.returns-clause-end
returns-clause-end c =
    end_grown c.requires.end c.tasks-tasks.ensures.line c.requires.set c.args.task c.requires.free
    c.waiting-waiting.result.now c.insert.ensures.value c.waiting-waiting.ensures.members refl
    c.remove.ensures.value c.open.ensures.tasks (λ i. (
      λ m. elim ((c.open.ensures.free i).0 m) [
        | inl o ↦ inl o
        | inr p ↦ inr (
          In-meet c.waiting-waiting.result.now c.args.set.now i ((c.waiting-waiting.ensures.members i).1 p.1) p.0,
          p.2,
        )
      ],
      λ m. (c.open.ensures.free i).1 (elim m [
        | inl o ↦ inl o
        | inr p ↦
            let q = In-meet_parts c.waiting-waiting.result.now c.args.set.now i p.0 in
            inr (q.1, (c.waiting-waiting.ensures.members i).0 q.0, p.1)
      ]),
    )) c.open.ensures.marked
