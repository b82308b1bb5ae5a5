use Rattle.std.proofs.Common.{◌≡◌, ◌+◌, ◌∙◌, ℕ, arith, subst, sym, length}
use Rattle.std.proofs.lemmas.Bool.{false≢true}
use Rattle.line_instance.specs.inner.Inside.{of_rows}
use Rattle.line_instance.specs.declared.partners.Kept.{Kept}
use Rattle.line_instance.proofs.KeptPartners.{IsKeeping, one_kept, same_kept, all_kept}
use Rattle.line_instance.proofs.partners.first_partners.Goals as goal
use Rattle.line_instance.proofs.partners.first_partners.Goals.{then-kept-lt-MAX_KEPT+then-is_partner}
use Rattle.line_instance.proofs.partners.first_partners.Goals.{else-kept-lt-MAX_KEPT}
use Rattle.line_instance.proofs.partners.first_partners.Goals.{else-kept-lt-MAX_KEPT-via-then-kept-lt-MAX_KEPT+else-is_partner}
use Rattle.line_instance.proofs.partners.first_partners.Goals.{else-kept-lt-MAX_KEPT-via-else-kept-lt-MAX_KEPT}

pub loop-j-preserved : goal.loop-j-preserved
loop-j-preserved c =
    let line = of_rows c.args.times.now c.args.before.now c.args.apart.now in
    let P : Kept → Type 0 = λ k. IsKeeping line c.args.i k (c.loop-j.j + 1) in
    elim c.if-kept-lt-MAX_KEPT.branch [
      | then-kept-lt-MAX_KEPT+then-is_partner w ↦ subst P (sym w.kept-is)
          (one_kept line c.args.i c.loop-j.kept c.loop-j.j (omega arith) (w.is_partner.ensures.0 w.if-is_partner.true)
          c.loop-j.invariant)
      | else-kept-lt-MAX_KEPT w ↦ subst P (sym w.kept-is) (same_kept line c.args.i c.loop-j.kept c.loop-j.j
          (elim w.else-kept-lt-MAX_KEPT.branch [
            | else-kept-lt-MAX_KEPT-via-then-kept-lt-MAX_KEPT+else-is_partner v ↦
                (λ p. absurd (false≢true (sym v.if-is_partner.false ∙ v.is_partner.ensures.1 p)))
            | else-kept-lt-MAX_KEPT-via-else-kept-lt-MAX_KEPT v ↦ (λ p. omega arith)
          ]) c.loop-j.invariant)
    ]

pub returns-clause-kept : goal.returns-clause-kept
returns-clause-kept c =
    let line = of_rows c.args.times.now c.args.before.now c.args.apart.now in
    let e : c.loop-j.j ≡ length c.args.times.now = omega arith in
    let P : ℕ → Type 0 = λ j. IsKeeping line c.args.i c.loop-j.kept j in
    all_kept line c.args.i c.loop-j.kept (subst P e c.loop-j.invariant)
