use Rattle.std.proofs.Common.{◌≡◌, ◌∙◌, ℕ, sym, ap, inl, inr, arith}
use Rattle.std.specs.Prelude.{slice_get}
use Rattle.std.proofs.lemmas.Bool.{cases_eq, false≢true}
use Rattle.std.proofs.lemmas.Option.{same_Some, slice_get_within}
use Rattle.line_rules.specs.declared.types.Entry.{Entry}
use Rattle.line_instance.specs.inner.Words.{equal_sets}
use Rattle.effic_search.proofs.counting.has_all_from.Goals as goal

pub loop-k-preserved : goal.loop-k-preserved
loop-k-preserved c = λ j e from l g s. elim (cases_eq j c.loop-k.k) [
  | inl q ↦
      let same : e ≡ c.at.result.now =
      same_Some e c.at.result.now
      (sym g ∙ (ap (λ (z : ℕ). slice_get c.args.entries.now z) q ∙ c.at.ensures)) in
      let t = (equal_sets c.at.result.now.set c.all-all.result).1
      (ap (λ (z : Entry). z.set) (sym same) ∙ (s ∙ sym c.all-all.ensures.value)) in
      absurd (false≢true (sym c.if-eq.false ∙ (c.eq.ensures ∙ t)))
  | inr n ↦ c.loop-k.invariant j e from (omega (arith, l, n)) g s
]

pub returns : goal.returns
returns c = λ t j e from g s.
    c.loop-k.invariant j e from
    (omega (arith, slice_get_within c.args.entries.now j e g, c.loop-k-test.false, c.len-k-end.ensures)) g s
