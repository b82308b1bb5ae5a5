use Rattle.std.proofs.Common.{◌≡◌, ◌∙◌, ℕ, sym, ap, subst, inl, inr, arith, Some}
use Rattle.std.specs.Prelude.{slice_get}
use Rattle.std.proofs.lemmas.Bool.{cases_eq, false≢true}
use Rattle.std.proofs.lemmas.Option.{same_Some, slice_get_within}
use Rattle.line_rules.specs.Balance.{all_tasks}
use Rattle.line_rules.specs.Entries.{HasAnswer}
use Rattle.line_rules.specs.declared.types.Entry.{Entry}
use Rattle.line_instance.specs.inner.Words.{equal_sets}
use Rattle.effic_search.proofs.counting.greatest_refuted.Goals as goal
use Rattle.effic_search.proofs.counting.greatest_refuted.Goals.{then-eq, else-eq}

pub loop-k-preserved : goal.loop-k-preserved
loop-k-preserved c =
    let line = c.args.inst.now in
    let es = c.args.entries.now in
    let k = c.loop-k.k in
    let x = c.at-entry.result.now in
    let here : (j : ℕ) (e : Entry) → j ≡ k → slice_get es j ≡ Some e → e ≡ x =
    λ j e q g. same_Some e x (sym g ∙ (ap (λ (z : ℕ). slice_get es z) q ∙ c.at-entry.ensures)) in
    elim c.if-eq.branch [
      | then-eq w ↦
          let same = (equal_sets x.set c.all-all.result).0 (sym c.eq.ensures ∙ w.if-eq.true)
          ∙ c.all-all.ensures.value in (
            λ one. (
              k,
              x,
              (
                c.at-entry.ensures,
                record {
                  same = same;
                  stations = omega (arith, c.if-entry-stations.false);
                  long = omega (arith, w.greatest-is);
                },
              ),
            ),
            λ j e l g s m. elim (cases_eq j k) [
              | inl q ↦ omega (arith, w.greatest-is, ap (λ (z : Entry). z.cycle) (here j e q g))
              | inr n ↦
                  let old = c.loop-k.invariant.1 j e (omega (arith, l, n)) g s m in
                  omega (arith, w.greatest-is, old, c.if-entry-greatest.false)
            ],
          )
      | else-eq w ↦
          let P : ℕ → Type 0 = λ z. HasAnswer es (all_tasks line) c.args.stations z in (
            λ one. subst P (sym w.greatest-is) (c.loop-k.invariant.0 (omega (arith, one, w.greatest-is))),
            λ j e l g s m. elim (cases_eq j k) [
              | inl q ↦
                  let t = (equal_sets x.set c.all-all.result).1
                  (ap (λ (z : Entry). z.set) (sym (here j e q g)) ∙ (s ∙ sym c.all-all.ensures.value)) in
                  absurd (false≢true (sym w.if-eq.false ∙ (c.eq.ensures ∙ t)))
              | inr n ↦ omega (arith, w.greatest-is, c.loop-k.invariant.1 j e (omega (arith, l, n)) g s m)
            ],
          )
    ]

pub returns : goal.returns
returns c = record {
  refuted = c.loop-k.invariant.0;
  greatest = λ cycle h.
      let within = slice_get_within c.args.entries.now h.0 h.1 h.2.0 in
      let old = c.loop-k.invariant.1 h.0 h.1 (omega (arith, within, c.loop-k-test.false, c.len-k-end.ensures)) h.2.0
      h.2.1.same h.2.1.stations in
      omega (arith, old, h.2.1.long);
}
