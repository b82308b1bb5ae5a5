use Rattle.std.proofs.Common.{◌∙◌, sym, ap, inl, inr}
use Rattle.line_instance.proofs.Members.{In-empty, In-minus, In-minus_parts}
use Rattle.line_instance.specs.Line.{has}
use Rattle.line_rules.specs.Sides.{task_at}
use Rattle.line_rules.proofs.SideTurns.{end_made}
use Rattle.station_load.proofs.ends.End.start.Goals as goal

pub add_ready-requires-clause-candidates : goal.add_ready-requires-clause-candidates
add_ready-requires-clause-candidates c = λ i m. In-minus_parts c.args.set.now c.args.part.now i
    (ap (λ b. has b i) (sym c.minus.ensures.value) ∙ m)

pub add_ready-requires-clause-marked : goal.add_ready-requires-clause-marked
add_ready-requires-clause-marked c = record {
  is = λ p. (
    λ m. (((c.places_of-end.ensures p).0 m).0, inl ((c.places_of-end.ensures p).0 m).1),
    λ m. elim m.1 [
      | inl t ↦ (c.places_of-end.ensures p).1 (m.0, t)
      | inr f ↦ absurd (In-empty 1024 (task_at c.args.inst.now c.args.side p)
          (ap (λ b. has b (task_at c.args.inst.now c.args.side p)) (sym c.empty.ensures.value) ∙ f))
    ],
  );
}

pub returns-then-fills-clause-kept : goal.returns-then-fills-clause-kept
returns-then-fills-clause-kept c = λ e.
    end_made c.empty.result c.minus.result c.requires.part c.add_ready.ensures.tasks
    (λ i m. In-empty 1024 i (ap (λ b. has b i) (sym c.empty.ensures.value) ∙ m))
    (λ i m n. ap (λ b. has b i) c.minus.ensures.value ∙ In-minus c.args.set.now c.args.part.now i m n)
    c.add_ready.ensures.free c.add_ready.ensures.marked
