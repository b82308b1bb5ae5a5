use Rattle.std.proofs.Common.{ℕ, ◌≡◌, subst, inl, inr, arith}
use Rattle.std.proofs.lemmas.Bool.{cases_lt}
use Rattle.line_check.specs.inner.Pairs.{IsClosedAt}
use Rattle.line_check.proofs.pairs.is_closed.Goals as goal

pub loop-i-preserved : goal.loop-i-preserved
loop-i-preserved c = λ j l. elim (cases_lt j c.loop-i.i) [
  | inl a ↦ c.loop-i.invariant j a
  | inr b ↦
      let e : c.loop-i.i ≡ j = omega (arith, l, b) in
      let P : ℕ → Type 0 = λ k. IsClosedAt c.args.inst.now c.args.set.now c.args.load.now c.args.taken.now k in
      subst P e (c.is_closed_at.ensures.0 c.if-not-is_closed_at.false)
]
