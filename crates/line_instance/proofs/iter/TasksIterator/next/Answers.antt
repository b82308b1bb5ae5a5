use Rattle.std.proofs.Common.{◌≡◌, [], ◌∷◌, ◌∙◌, ◌+◌, ◌-◌, ◌*◌, bit_and, sym, ap, List, ℕ, Option, subst, arith, length}
use Rattle.std.proofs.Common.{refl}
use lib.Count.{count_trailing_zeros}
use Rattle.line_instance.specs.inner.Words.{members_left}
use Rattle.line_instance.specs.declared.iter.Tasks.TheInside.{Inside}
use Rattle.std.specs.Iterator.{YieldsFirst}
use Rattle.line_instance.proofs.Ahead.{next_member, left_of_none}
use Rattle.line_instance.proofs.iter.TasksIterator.next.Goals as goal
use Rattle.line_instance.proofs.iter.TasksIterator.next.Goals.{then-self-eq0+in_ok-k, else-self-eq0}

pub returns-in_err-k-clause-steps : goal.returns-in_err-k-clause-steps
returns-in_err-k-clause-steps c =
    let e : c.args.self.now ≡ [] = sym c.self.view_is ∙ left_of_none c.self.inside.word c.self.inside.base
    c.self.inside.next c.self.inside.set.now c.if-self-eq0.true ∙ c.in_err-k.ensures.none refl in
    let P : Option ℕ → Type 0 = λ r. YieldsFirst (λ (t : List ℕ). t) c.args.self.now r c.args.self.now in
    subst P (sym c.from_residual.ensures) (e, e)

pub returns-clause-steps : goal.returns-clause-steps
returns-clause-steps c =
    let P : Inside → Type 0 = λ x. c.args.self.now ≡ (x.base + count_trailing_zeros 64 x.word) ∷ members_left
    (bit_and x.word (x.word - 1)) x.base x.next x.set.now in
    elim c.if-self-eq0.branch [
      | then-self-eq0+in_ok-k w ↦
          subst P (sym w.self-inside-is)
          (sym c.self.view_is ∙ left_of_none c.self.inside.word c.self.inside.base c.self.inside.next
          c.self.inside.set.now w.if-self-eq0.true ∙ w.in_ok-k.ensures.some
          ∙ next_member w.in_ok-k.word w.in_ok-k.ensures.one w.in_ok-k.ensures.fits (64 * w.in_ok-k.k) (w.in_ok-k.k + 1)
          c.self.inside.set.now)
      | else-self-eq0 w ↦
          subst P (sym w.self-inside-is)
          (sym c.self.view_is ∙ next_member c.self.inside.word (omega (arith, w.if-self-eq0.false)) (omega arith)
          c.self.inside.base c.self.inside.next c.self.inside.set.now)
    ]

pub returns-clause-goes : goal.returns-clause-goes
returns-clause-goes c = record {
  on = λ f. (tt, tt, omega (arith, ap length (returns-clause-steps c)));
  keeps = tt;
  rests = λ f. tt;
}
