use Rattle.std.proofs.Common.{◌≡◌, ◌∙◌, ℕ, List, Bool, false, replicate, sym, ap, subst, inl, inr}
use Rattle.line_instance.specs.Truths.{In}
use Rattle.line_instance.proofs.Members.{In-empty}
use Rattle.line_instance.specs.Line.{IsTaskSet, has}
use Rattle.line_rules.specs.Sides.{task_at}
use Rattle.std.proofs.lemmas.Bool.{false_from_ne_true}
use Rattle.line_rules.proofs.SideTurns.{end_made}
use Rattle.line_rules.proofs.ScanFacts.{nothing_set}
use Rattle.check_loads.proofs.ends.End.start.Goals as goal

none_in : (b : List Bool) → b ≡ replicate 1024 false → (i : ℕ) → In b i → ⊥
none_in b e i m = In-empty 1024 i (ap (λ x. has x i) (sym e) ∙ m)

pub add_ready-requires-clause-candidates : goal.add_ready-requires-clause-candidates
add_ready-requires-clause-candidates c = λ i m. (
  m,
  false_from_ne_true (has c.bare-end.result.tasks i)
      (none_in c.bare-end.result.tasks c.bare-end.ensures.tasks i),
)

pub add_ready-requires-clause-marked : goal.add_ready-requires-clause-marked
add_ready-requires-clause-marked c = record {
  is = λ p. (
    λ m. absurd (none_in c.bare-end.result.places c.bare-end.ensures.places p m),
    λ m. elim m.1 [
      | inl t ↦ absurd (none_in c.bare-end.result.tasks c.bare-end.ensures.tasks (task_at c.args.inst.now c.args.side p)
          t)
      | inr f ↦ absurd (none_in c.bare-end.result.free c.bare-end.ensures.free (task_at c.args.inst.now c.args.side p)
          f)
    ],
  );
}

pub returns-then-fills-clause-kept : goal.returns-then-fills-clause-kept
returns-then-fills-clause-kept c = λ e.
    let S : List Bool → Type 0 = λ b. IsTaskSet c.args.inst.now b in
    end_made c.bare-end.result.free c.args.set.now (subst S (sym c.bare-end.ensures.tasks)
    (nothing_set c.args.inst.now)) c.add_ready.ensures.tasks
    (none_in c.bare-end.result.free c.bare-end.ensures.free)
    (λ i m n. m) c.add_ready.ensures.free c.add_ready.ensures.marked
