use Rattle.std.proofs.Common.{◌∙◌, false, set, sym, ap, refl, inl, inr, arith}
use Rattle.std.proofs.lemmas.List.{set-get_or}
use Rattle.std.proofs.lemmas.Bool.{cases_Bool, false≢true}
use Rattle.line_instance.specs.Truths.{meet}
use Rattle.line_instance.specs.Line.{has}
use Rattle.line_instance.proofs.Members.{In-meet, In-meet_parts}
use Rattle.line_rules.proofs.SideTurns.{fewer_shut, shut_turn, shut_end}
use Rattle.station_load.proofs.SetFacts.{meet_clear}
use Rattle.station_load.proofs.ends.End.shut.Goals as goal

pub loop-other-init : goal.loop-other-init
loop-other-init c = record {
  marked = c.requires.marked;
  stand = sym (set-get_or c.args.self.now.tasks c.args.task false)
      ∙ ap (λ b. set c.args.self.now.tasks c.args.task b) c.requires.gone;
  known = λ i m. c.waiting-waiting.ensures.set.tasks i
      (In-meet_parts c.waiting-waiting.result.now c.args.self.now.free i m).0;
  gone = λ i m h. false≢true (sym (c.requires.apart i
      (In-meet_parts c.waiting-waiting.result.now c.args.self.now.free i m).1) ∙ h);
  left = λ i m. (c.waiting-waiting.ensures.members i).0
      (In-meet_parts c.waiting-waiting.result.now c.args.self.now.free i m).0;
  only = λ i m. (
    inl m,
    elim (cases_Bool (has c.waiting-waiting.result.now i)) [
      | inl w ↦ inl (In-meet c.waiting-waiting.result.now c.args.self.now.free i w m)
      | inr n ↦ inr (λ a. false≢true (sym n ∙ (c.waiting-waiting.ensures.members i).1 a))
    ],
  );
  kept = λ i m n. elim m [ inl o ↦ o | inr e ↦ ap (λ j. has c.args.self.now.free j) e ∙ c.requires.task ];
}

pub remove-requires : goal.remove-requires
remove-requires c = omega (
  arith,
  c.loop-other.invariant.known c.in-Some.other c.in-Some.ensures.some.member,
  c.tasks-tasks.ensures.line.small,
)

pub place_of-requires : goal.place_of-requires
place_of-requires c = c.loop-other.invariant.known c.in-Some.other c.in-Some.ensures.some.member

pub loop-other-smaller : goal.loop-other-smaller
loop-other-smaller c = fewer_shut c.loop-other.self.free c.in-Some.other (In-meet_parts c.waiting-waiting.result.now
    c.loop-other.self.free c.in-Some.other c.in-Some.ensures.some.member).1 c.remove.ensures.value

pub loop-other-preserved : goal.loop-other-preserved
loop-other-preserved c =
    shut_turn c.loop-other.invariant c.tasks-tasks.ensures.ranked c.in-Some.ensures.some.member
    c.place_of.ensures.within c.place_of.ensures.task
    (ap (λ b. meet c.waiting-waiting.result.now b) c.remove.ensures.value
    ∙ meet_clear c.waiting-waiting.result.now c.loop-other.self.free c.in-Some.other)
    c.remove.ensures.value c.unmark.ensures.value

pub returns-clause-free : goal.returns-clause-free
returns-clause-free c = λ i.
    let q = shut_end c.loop-other.invariant (c.in_default.ensures.none.0 refl) i in (
      λ m.
          let o = q.0 m in
          (elim o.0 [ inl x ↦ x | inr e ↦ ap (λ j. has c.args.self.now.free j) e ∙ c.requires.task ], o.1),
      λ m. q.1 (inl m.0, m.1),
    )
