use Rattle.std.proofs.Common.{ℕ, Bool, List, refl, arith}
use Rattle.line_instance.specs.Truths.{In, meet}
use Rattle.line_instance.proofs.Members.{In-meet, In-meet_parts}
use Rattle.line_rules.proofs.SidePlaces.{set_in}
use Rattle.line_rules.proofs.SideTurns.{shut_start, shut_end}
use Rattle.station_load.proofs.ends.End.give_up.Goals as goal

in_both : (a b : List Bool) (i : ℕ) → In (meet a b) i → In (meet b a) i
in_both a b i m = let q : In a i × In b i = In-meet_parts a b i m in In-meet b a i q.1 q.0

pub returns-then-is_disjoint-clause-free : goal.returns-then-is_disjoint-clause-free
returns-then-is_disjoint-clause-free c =
    shut_end (shut_start c.tasks-tasks.ensures.line c.tasks-tasks.ensures.ranked c.requires.marked c.requires.apart
    c.requires.task c.requires.within c.remove.ensures.value c.insert.ensures.value c.insert.ensures.truths
    c.waiting-waiting.ensures.members c.waiting-waiting.ensures.set refl)
    (λ i m. c.is_disjoint.ensures.0 c.if-is_disjoint.true i (in_both c.insert.new.self c.waiting-waiting.result.now i m))

pub returns-then-is_disjoint-clause-marked : goal.returns-then-is_disjoint-clause-marked
returns-then-is_disjoint-clause-marked c =
    (shut_start c.tasks-tasks.ensures.line c.tasks-tasks.ensures.ranked c.requires.marked c.requires.apart
    c.requires.task c.requires.within c.remove.ensures.value c.insert.ensures.value c.insert.ensures.truths
    c.waiting-waiting.ensures.members c.waiting-waiting.ensures.set refl).marked

pub shut-requires-clause-marked : goal.shut-requires-clause-marked
shut-requires-clause-marked c =
    (shut_start c.tasks-tasks.ensures.line c.tasks-tasks.ensures.ranked c.requires.marked c.requires.apart
    c.requires.task c.requires.within c.remove.ensures.value c.insert.ensures.value c.insert.ensures.truths
    c.waiting-waiting.ensures.members c.waiting-waiting.ensures.set refl).marked

pub returns-clause-free : goal.returns-clause-free
returns-clause-free c = λ i.
    let w = set_in c.args.self.now.free c.insert.new.self c.args.task c.insert.ensures.value c.insert.ensures.truths
    (omega (arith, c.requires.within, c.tasks-tasks.ensures.line.small)) i in (
      λ m. let q = (c.shut.ensures.free i).0 m in (w.0 q.0, q.1),
      λ m. (c.shut.ensures.free i).1 (w.1 m.0, m.1),
    )
