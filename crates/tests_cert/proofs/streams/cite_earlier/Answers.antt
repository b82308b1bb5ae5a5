use Rattle.std.proofs.Common.{◌≡◌, ◌<◌, Some, ap, sym, ◌∙◌, refl, length, inl, inr, subst, arith}
use Rattle.std.specs.Prelude.{slice_get}
use Rattle.std.specs.List.{Contains}
use Rattle.std.proofs.lemmas.Bool.{cases_lt}
use Rattle.std.proofs.lemmas.Option.{slice_get_within, slice_get_read, same_Some}
use Rattle.line_rules.specs.declared.types.Entry.{Entry}
use Rattle.entry_lists.specs.Trim.{cited_by}
use Rattle.tests_cert.proofs.streams.cite_earlier.Goals as goal

pub loop-k-preserved : goal.loop-k-preserved
loop-k-preserved c = λ j e l there cite m. elim (cases_lt j c.loop-k.k) [
  | inl b ↦ c.loop-k.invariant j e b there cite m
  | inr g ↦
      let same : j ≡ c.loop-k.k = omega arith in
      let here : slice_get c.args.entries.now c.loop-k.k ≡ Some c.entry-item.result =
      ap (λ es. slice_get es c.loop-k.k) (sym c.as_slice-entry-items.ensures)
      ∙ slice_get_read c.as_slice-entry-items.result.now _ c.loop-k.k c.entry-item.result refl c.loop-k-test.true
      c.entry-item.is in
      let x : e ≡ c.entry-item.result = same_Some e c.entry-item.result
      (sym there ∙ ap (slice_get c.args.entries.now) same ∙ here) in
      let P : Entry → Type 0 = λ y. Contains (cited_by y.why) cite in
      let b : cite < c.loop-k.k = c.if-not-are_before.ensures refl cite (subst P x m) in omega arith
]

pub returns : goal.returns
returns c = λ t k e there. c.loop-k.invariant k e (omega (
  arith,
  slice_get_within c.args.entries.now k e there,
  ap length c.as_slice-entry-items.ensures,
  c.loop-k-test.false,
)) there
