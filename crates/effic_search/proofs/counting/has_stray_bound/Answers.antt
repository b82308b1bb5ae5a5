use Rattle.std.proofs.Common.{◌≡◌, ◌∙◌, ℕ, ◌+◌, List, length, take, sym, ap, inl, inr, arith}
use Rattle.std.specs.Prelude.{slice_get}
use Rattle.std.proofs.lemmas.Bool.{cases_eq, ltb-false}
use Rattle.std.proofs.lemmas.Option.{same_Some, slice_get_within}
use Rattle.std.proofs.Math.Seq.{take-length}
use Rattle.line_rules.specs.declared.types.Entry.{Entry}
use Rattle.effic_search.specs.Counted.{bounds}
use Rattle.effic_search.proofs.CountFacts.{bounds_next, bound_few}
use Rattle.effic_search.proofs.counting.has_stray_bound.Goals as goal

pub overflow_add-found : goal.overflow_add-found
overflow_add-found c = omega (
  arith,
  c.loop-k.invariant.2,
  bound_few c.at-entry.result.now.why,
  c.bounded-found.ensures,
  c.loop-k-test.true,
  c.len-k-end.type_inv,
)

pub loop-k-preserved : goal.loop-k-preserved
loop-k-preserved c = (
  λ j e from l g b. elim (cases_eq j c.loop-k.k) [
    | inl q ↦
        let same : e ≡ c.at-entry.result.now =
        same_Some e c.at-entry.result.now
        (sym g ∙ (ap (λ (z : ℕ). slice_get c.args.entries.now z) q ∙ c.at-entry.ensures)) in
        ap (λ (z : Entry). z.set) same
        ∙ (c.is_stray.ensures c.if-is_stray.false (ap (λ (z : Entry). z.why) (sym same) ∙ b)
        ∙ c.all-all.ensures.value)
    | inr n ↦ c.loop-k.invariant.0 j e from (omega (arith, l, n)) g b
  ],
  omega (
    arith,
    bounds_next c.args.inst.now c.args.entries.now c.loop-k.k (c.loop-k.k + 1) c.at-entry.result.now c.at-entry.ensures
        (omega arith),
    c.loop-k.invariant.1,
    c.bounded-found.ensures,
  ),
  omega (arith, c.loop-k.invariant.2, c.bounded-found.ensures, bound_few c.at-entry.result.now.why),
)

pub returns-clause-goals : goal.returns-clause-goals
returns-clause-goals c = λ t j e from g b.
    c.loop-k.invariant.0 j e from
    (omega (arith, slice_get_within c.args.entries.now j e g, c.loop-k-test.false, c.len-k-end.ensures)) g b

pub returns-clause-few : goal.returns-clause-few
returns-clause-few c = λ t.
    let es = c.args.entries.now in
    let end : c.loop-k.k ≡ length es =
    omega (
      arith,
      c.loop-k-test.false,
      c.loop-k.auto.k-end (omega (arith, c.requires.from, c.len-k-end.ensures)),
      c.len-k-end.ensures,
    ) in
    omega (
      arith,
      c.loop-k.invariant.1,
      ap (λ (z : ℕ). bounds (take z es)) end,
      ap (λ (z : List Entry). bounds z) (take-length es),
      ltb-false c.args.most c.loop-k.found t,
    )
