use Rattle.std.proofs.Common.{◌∙◌, sym, ap, inl, inr}
use Rattle.line_instance.specs.Line.{has}
use Rattle.line_instance.proofs.Members.{In-meet, In-meet_parts}
use Rattle.station_load.proofs.ends.End.open.Goals as goal

pub add_ready-requires-clause-candidates : goal.add_ready-requires-clause-candidates
add_ready-requires-clause-candidates c = λ i m.
    let q = In-meet_parts c.waiting.result.now c.args.set.now i (ap (λ b. has b i) (sym c.meet.ensures.value) ∙ m) in
    (q.1, c.requires.absent i q.1 ((c.waiting.ensures.members i).0 q.0))

pub returns-clause-free : goal.returns-clause-free
returns-clause-free c = λ i. (
  λ m. elim ((c.add_ready.ensures.free i).0 m) [
    | inl o ↦ inl o
    | inr p ↦
        let q = In-meet_parts c.waiting.result.now c.args.set.now i (ap (λ b. has b i) (sym c.meet.ensures.value)
        ∙ p.0) in
        inr (q.1, (c.waiting.ensures.members i).0 q.0, p.1)
  ],
  λ m. (c.add_ready.ensures.free i).1 (elim m [
    | inl o ↦ inl o
    | inr p ↦ inr (
      ap (λ b. has b i) c.meet.ensures.value ∙ In-meet c.waiting.result.now c.args.set.now i
          ((c.waiting.ensures.members i).1 p.1) p.0,
      p.2,
    )
  ]),
)
