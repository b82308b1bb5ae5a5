use Rattle.std.proofs.Common.{◌≡◌, ◌∙◌, ℕ, sym, ap, subst, inl, inr, arith}
use Rattle.std.specs.Prelude.{slice_get}
use Rattle.std.proofs.lemmas.Bool.{cases_eq, false≢true}
use Rattle.std.proofs.lemmas.Option.{same_Some, slice_get_within}
use Rattle.line_rules.specs.Entries.{Answers}
use Rattle.line_rules.specs.declared.types.Entry.{Entry}
use Rattle.line_check.proofs.checking.has_answer.Goals as goal

pub loop-k-init : goal.loop-k-init
loop-k-init c = λ j e l h a. omega (arith, l)

pub loop-k-preserved : goal.loop-k-preserved
loop-k-preserved c = λ j e l h a. elim (cases_eq j c.loop-k.k) [
  | inl s ↦
      let q : e ≡ c.at.result.now = same_Some e c.at.result.now
      (sym h ∙ (ap (λ (z : ℕ). slice_get c.args.entries.now z) s ∙ c.at.ensures)) in
      let P : Entry → Type 0 = λ z. Answers z c.args.set.now c.args.most c.args.cycle in
      false≢true (sym c.if-answers.false ∙ c.answers.ensures.1 (subst P q a))
  | inr d ↦ c.loop-k.invariant j e (omega (arith, l, d)) h a
]

pub returns-clause-none : goal.returns-clause-none
returns-clause-none c = λ h. absurd (c.loop-k.invariant h.0 h.1
    (omega (arith, slice_get_within c.args.entries.now h.0 h.1 h.2.0, c.loop-k-test.false, c.len-k-end.ensures)) h.2.0
    h.2.1)
